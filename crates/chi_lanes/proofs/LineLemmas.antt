-- A line at the front of more bytes.
use Rattle.std.proofs.Common.{◌≡◌, ℕ, ◌+◌, ◌-◌, ◌<◌, ◌≤◌, List, true, cond, nat_le, None, length, take, drop, sym, ap, ◌∙◌, arith}
use Rattle.std.proofs.lemmas.List.{drop-drop, drop-take, length-drop, length-take-le}
use Rattle.std.proofs.lemmas.Bool.Decides.{nat_tests}
use Rattle.chi_lanes.proofs.RunLemmas.{fewer}
use Rattle.chi_lanes.specs.Numbers.{number_of, short_number}

-- a text of the line stands in all of the bytes too
pub text_in : (bytes : List ℕ) (size start end : ℕ) → start ≤ end → end ≤ size → size ≤ length bytes → take (end - start) (drop start bytes) ≡ take (end - start) (drop start (take size bytes))
text_in bytes size start end ordered within room =
    let parts : start + (size - start) ≡ size = omega arith in
    let long : size - start ≤ length (drop start bytes) = omega (arith, length-drop start bytes) in
    sym (fewer (drop start bytes) (end - start) (size - start) (omega arith) long)
    ∙ ap (take (end - start)) (sym (drop-take start (size - start) bytes) ∙ ap (λ n. drop start (take n bytes)) parts)

pub text_of : (bytes : List ℕ) (size start end : ℕ) → start ≤ end → end ≤ length (take size bytes) → size ≤ length bytes → take (end - start) (drop start bytes) ≡ take (end - start) (drop start (take size bytes))
text_of bytes size start end ordered within room = text_in bytes size start end ordered (omega (arith, length-take-le size bytes room)) room

-- a text within sixteen bytes
pub window_text : (bytes : List ℕ) (from start end : ℕ) → from ≤ start → start < end → end ≤ from + 16 → from + 16 ≤ length bytes
    → take (end - from - (start - from)) (drop (start - from) (take 16 (drop from bytes))) ≡ take (end - start) (drop start bytes)
window_text bytes from start end low ordered high room =
    let there : from + (start - from) ≡ start = omega arith in
    let size : end - from - (start - from) ≡ end - start = omega arith in
    let rest : 16 ≤ length (drop from bytes) = omega (arith, length-drop from bytes) in
    sym (text_in (drop from bytes) 16 (start - from) (end - from) (omega arith) (omega arith) rest)
    ∙ (λ i. take (size i) ((drop-drop (start - from) from bytes ∙ ap (λ n. drop n bytes) there) i))

pub short_is : (text : List ℕ) → length text ≤ 16 → number_of text ≡ short_number text
short_is text few = ap (λ b. cond b (number_of text) None) (sym (le_true (length text) 16 few))
  where
    le_true : (a b : ℕ) → a ≤ b → nat_le a b ≡ true
    le_true a b h = grind (arith, nat_tests)
