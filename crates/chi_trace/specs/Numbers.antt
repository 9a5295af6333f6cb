-- Numbers of a trace, in hexadecimal (docs/TRACES.md, "Traces").
use Rattle.std.specs.Prelude.{ℕ, ◌+◌, ◌-◌, ◌*◌, ◌&&◌, ◌==◌, nat_le, List, [], ◌∷◌, Option, Some, None, if◌then◌else◌}
use Rattle.chi_script.specs.Words.{◌>>=◌}

-- what a digit is worth, in letters of either case
abbrev pub digit_of : ℕ → Option ℕ
digit_of d =
    if nat_le 48 d && nat_le d 57 then Some (d - 48) else (
    if nat_le 97 d && nat_le d 102 then Some (d - 97 + 10) else (
    if nat_le 65 d && nat_le d 70 then Some (d - 65 + 10) else None))

-- one more digit at the end of a number, which stays within the most that there may be
abbrev pub with_hex_digit : ℕ → ℕ → ℕ → Option ℕ
with_hex_digit most n d = digit_of d >>= λ v. if nat_le (n * 16 + v) most then Some (n * 16 + v) else None

-- digits that follow a number
unfoldable pub digits_from : ℕ → ℕ → List ℕ → Option ℕ
digits_from most n [] = Some n
digits_from most n (d ∷ ds) = with_hex_digit most n d >>= λ m. digits_from most m ds

-- a number of one digit or more
abbrev pub plain_of : ℕ → List ℕ → Option ℕ
plain_of most [] = None
plain_of most (d ∷ ds) = digits_from most 0 (d ∷ ds)

-- what stands behind 0x, where a word begins so, and else the word
abbrev pub unmarked : List ℕ → List ℕ
unmarked [] = []
unmarked (d ∷ []) = d ∷ []
unmarked (d ∷ e ∷ ds) = if d == 48 && e == 120 then ds else d ∷ e ∷ ds

-- a number with 0x before its digits, or without
abbrev pub hex_of : ℕ → List ℕ → Option ℕ
hex_of most word = plain_of most (unmarked word)
