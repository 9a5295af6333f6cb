-- Masks of a line, and of the bytes behind it.
use Rattle.std.proofs.Common.{◌≡◌, ℕ, ◌+◌, ◌-◌, ◌<◌, ◌≤◌, ◌||◌, List, ◌++◌, Bool, true, false, cond, max, length, get_or, drop, nat_le, replicate, refl, sym, ap, ◌∙◌, arith, length-append, ⊎_elim, bit_or}
use Rattle.std.specs.Int.{bit_at}
use Rattle.std.proofs.lemmas.Bool.{cases_lt}
use Rattle.std.proofs.lemmas.Bool.Decides.{nat_tests}
use Rattle.std.proofs.lemmas.List.{get_or-append_right, get_or-drop, get_or-map, get_or_append_left, get_or_past, length-drop}
use Rattle.std.proofs.lemmas.Nat.Bits.{bit_at_or}
use Rattle.std.proofs.lemmas.Simd.{get_or-chunk, get_or-replicate, length-chunk}
use Rattle.chi_lanes.specs.Columns.{MarksBlanks, blank_at}
use Rattle.chi_lanes.specs.Masks.{Marks, bytes_at, is_blank}

-- a bit of the mask of 64 bytes
pub bit_of : (mask at : ℕ) (bytes : List ℕ) → at + 64 ≤ length bytes → Marks mask is_blank (bytes_at bytes at 64) → (k : ℕ) → k < 64
    → bit_at mask k ≡ cond (blank_at bytes (at + k)) 1 0
bit_of mask at bytes room marks k low =
    let long : length (bytes_at bytes at 64) ≡ 64 = length-chunk at 64 bytes room in
    marks k
    ∙ ap (λ b. cond b 1 0) (get_or-map is_blank (bytes_at bytes at 64) k 32 false (omega arith) ∙ ap is_blank (get_or-chunk at 64 bytes k 32 low))

pub line_marks : (mask : ℕ) (line : List ℕ) → 64 ≤ length line → Marks mask is_blank (bytes_at line 0 64) → MarksBlanks mask line
line_marks mask line long marks k low =
    let same : 0 + k ≡ k = omega arith in
    bit_of mask 0 line (omega arith) marks k low ∙ ap (λ j. cond (blank_at line j) 1 0) same

-- a byte behind the end
pub past : (line : List ℕ) (k : ℕ) → length line ≤ k → get_or line k 32 ≡ 32
past line k high = get_or_past line k 32 high

-- a line with blanks behind it
abbrev padded : List ℕ → List ℕ
padded line = line ++ drop (length line) (replicate 64 32)

padded_byte : (line : List ℕ) (k : ℕ) → length line < 64 → k < 64 → get_or (padded line) k 32 ≡ get_or line k 32
padded_byte line k short low =
    let blanks : List ℕ = drop (length line) (replicate 64 32) in
    ⊎_elim (λ here. get_or_append_left line blanks 32 k here) (λ behind.
    let there : length line + (k - length line) ≡ k = omega arith in
    get_or-append_right line blanks (length line) k 32 refl behind
    ∙ (get_or-drop (length line) (replicate 64 32) (k - length line) 32
    ∙ (ap (λ j. get_or (replicate 64 32) j 32) there
    ∙ (get_or-replicate 64 k 32 32 low ∙ sym (past line k behind))))) (cases_lt k (length line))

padded_long : (line : List ℕ) → length line < 64 → length (padded line) ≡ 64
padded_long line short =
    let blanks : List ℕ = drop (length line) (replicate 64 32) in
    let sum : length line + (64 - length line) ≡ 64 = omega arith in
    length-append line blanks ∙ (ap (λ n. length line + n) (length-drop (length line) (replicate 64 32)) ∙ sum)

pub padded_marks : (mask : ℕ) (line : List ℕ) → length line < 64 → Marks mask is_blank (bytes_at (padded line) 0 64) → MarksBlanks mask line
padded_marks mask line short marks k low =
    line_marks mask (padded line) (let long = padded_long line short in omega arith) marks k low
    ∙ ap (λ b. cond (is_blank b) 1 0) (padded_byte line k short low)

-- a line within more bytes
within_case : (p q : Bool) → max (cond {A = ℕ} p 1 0) (cond q 1 0) ≡ cond (q || p) 1 0
within_case true true = refl
within_case true false = refl
within_case false true = refl
within_case false false = refl

within_byte : (bytes : List ℕ) (from size k : ℕ) (behind : Bool) → nat_le size k ≡ behind → from + size ≤ length bytes
    → (behind || blank_at bytes (from + k)) ≡ blank_at (bytes_at bytes from size) k
within_byte bytes from size k true e room =
    let long : length (bytes_at bytes from size) ≡ size = length-chunk from size bytes room in
    let off : length (bytes_at bytes from size) ≤ k = grind (arith, nat_tests) in
    sym (ap is_blank (past (bytes_at bytes from size) k off))
within_byte bytes from size k false e room = sym (ap is_blank (get_or-chunk from size bytes k 32 (grind (arith, nat_tests))))

pub within_marks : (mask rest from size : ℕ) (bytes : List ℕ) → from + 64 ≤ length bytes → from + size ≤ length bytes → Marks mask is_blank (bytes_at bytes from 64)
    → ((k : ℕ) → k < 64 → bit_at rest k ≡ cond (nat_le size k) 1 0) → MarksBlanks (bit_or mask rest) (bytes_at bytes from size)
within_marks mask rest from size bytes room fits marks above k low =
    bit_at_or mask rest k
    ∙ ((λ i. max (bit_of mask from bytes room marks k low i) (above k low i))
    ∙ (within_case (blank_at bytes (from + k)) (nat_le size k) ∙ ap (λ b. cond b 1 0) (within_byte bytes from size k (nat_le size k) refl fits)))
