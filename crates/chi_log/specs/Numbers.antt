-- Numbers of a trace, in hexadecimal (docs/TRACES.md, "Traces").
use Rattle.std.specs.Prelude.{ℕ, ◌+◌, ◌*◌, ◌==◌, ◌&&◌, nat_le, List, ◌∷◌, Option, Some, None, if◌then◌else◌}
use Rattle.chi_lanes.specs.Numbers.{digit_of, number_of}

abbrev pub and_then : Option ℕ → (ℕ → Option ℕ) → Option ℕ
and_then None next = None
and_then (Some n) next = next n

-- what stands behind 0x, where a word begins so, and else the word
abbrev pub unmarked : List ℕ → List ℕ
unmarked (d ∷ e ∷ ds) = if d == 48 && e == 120 then ds else d ∷ e ∷ ds
unmarked word = word

-- a number that is at most so much
abbrev pub at_most : ℕ → Option ℕ → Option ℕ
at_most most None = None
at_most most (Some n) = if nat_le n most then Some n else None

-- one more digit at the end of a number of 64 bits
abbrev pub with_digit : ℕ → ℕ → Option ℕ
with_digit n d = and_then (digit_of d) (λ v. at_most 0xffff_ffff_ffff_ffff (Some (n * 16 + v)))

-- the number that a word writes, with 0x before its digits, or without
abbrev pub hex_of : ℕ → List ℕ → Option ℕ
hex_of most word = at_most most (number_of (unmarked word))

-- of 16 bits, of 4 and of 64
abbrev pub id_of : List ℕ → Option ℕ
id_of word = hex_of 0xffff word

abbrev pub credit_of : List ℕ → Option ℕ
credit_of word = hex_of 0xf word

abbrev pub word_of : List ℕ → Option ℕ
word_of word = hex_of 0xffff_ffff_ffff_ffff word
