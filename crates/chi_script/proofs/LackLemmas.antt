-- Texts that lack a byte which no number has.
use Rattle.std.proofs.Common.{◌≡◌, ℕ, zero, suc, ◌/◌, ◌%◌, ◌<◌, ◌==◌, ◌&&◌, not, Bool, true, false, cond, List, [], ◌∷◌, ◌++◌, refl, ap, ◌∙◌, arith}
use Rattle.std.specs.Char.{is_ascii_digit}
use Rattle.std.specs.Fmt.{decimal, digits, digits_onto, digit_glyph}
use Rattle.std.specs.List.{join_with_byte, onto_first}
use Rattle.std.proofs.lemmas.Bool.Decides.{nat_tests}
use Rattle.std.proofs.lemmas.List.Splits.{slice_split-cons_yes, slice_split-cons_no}
use Rattle.chi_script.specs.Files.{lines_of}
use Rattle.chi_script.proofs.NumberLemmas.{both}

abbrev pub lacks : ℕ → List ℕ → Bool
lacks byte [] = true
lacks byte (b ∷ bs) = not (b == byte) && lacks byte bs

abbrev pub all_lack : ℕ → List (List ℕ) → Bool
all_lack byte [] = true
all_lack byte (text ∷ texts) = lacks byte text && all_lack byte texts

pub both_hold : (a b : Bool) → a ≡ true → b ≡ true → (a && b) ≡ true
both_hold a b e f = rw (e, f) refl

other : (b byte : ℕ) → not (b == byte) ≡ true → (b == byte) ≡ false
other b byte e = grind (arith, nat_tests)

-- a line end is none of the line's bytes
pub next_line : (line rest : List ℕ) → lacks 10 line ≡ true → lines_of (line ++ 10 ∷ rest) ≡ line ∷ lines_of rest
next_line [] rest e = slice_split-cons_yes (λ x. x == 10) 10 rest refl
next_line (b ∷ bs) rest e = let each = both (not (b == 10)) (lacks 10 bs) e in slice_split-cons_no (λ x. x == 10) b (bs ++ 10 ∷ rest) (other b 10 each.0) ∙ ap (onto_first b) (next_line bs rest each.1)

pub chained : (byte : ℕ) (word rest : List ℕ) → lacks byte word ≡ true → lacks byte rest ≡ true → lacks byte (word ++ rest) ≡ true
chained byte [] rest e f = f
chained byte (b ∷ bs) rest e f = let each = both (not (b == byte)) (lacks byte bs) e in both_hold (not (b == byte)) (lacks byte (bs ++ rest)) each.0 (chained byte bs rest each.1 f)

-- words with a space between two of them
pub line_lacks : (byte : ℕ) (words : List (List ℕ)) → not (32 == byte) ≡ true → all_lack byte words ≡ true → lacks byte (join_with_byte 32 words) ≡ true
line_lacks byte [] space e = refl
line_lacks byte (word ∷ []) space e = (both (lacks byte word) true e).0
line_lacks byte (word ∷ next ∷ words) space e =
    let each = both (lacks byte word) (all_lack byte (next ∷ words)) e in
    chained byte word (32 ∷ join_with_byte 32 (next ∷ words)) each.0 (both_hold (not (32 == byte)) (lacks byte (join_with_byte 32 (next ∷ words))) space (line_lacks byte (next ∷ words) space each.1))

-- a number has digits alone
low_digit : (byte d : ℕ) → is_ascii_digit byte ≡ false → d < 10 → not (digit_glyph false d == byte) ≡ true
low_digit byte d is low = grind (arith, nat_tests)

last_or_more : (b : Bool) (byte : ℕ) (last more : List ℕ) → lacks byte last ≡ true → lacks byte more ≡ true → lacks byte (cond b last more) ≡ true
last_or_more true byte last more e f = e
last_or_more false byte last more e f = f

digits_lack : (byte k n : ℕ) (rest : List ℕ) → is_ascii_digit byte ≡ false → lacks byte rest ≡ true → lacks byte (digits_onto k 10 false n rest) ≡ true
digits_lack byte zero n rest is e = e
digits_lack byte (suc k) n rest is e =
    let low : n % 10 < 10 = omega arith in
    let more = both_hold (not (digit_glyph false (n % 10) == byte)) (lacks byte rest) (low_digit byte (n % 10) is low) e in
    last_or_more (n / 10 == 0) byte _ _ more (digits_lack byte k (n / 10) (digit_glyph false (n % 10) ∷ rest) is more)

pub decimal_lacks : (byte n : ℕ) → is_ascii_digit byte ≡ false → lacks byte (decimal n) ≡ true
unfolding digits
decimal_lacks byte n is = digits_lack byte 64 n [] is refl
