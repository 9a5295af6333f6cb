-- Numbers that may not be above a most, digit by digit.
use Rattle.std.specs.Prelude.{ℕ, ◌≡◌, ◌+◌, ◌-◌, ◌*◌, ◌^◌, ◌≤◌, nat_le, List, [], ◌∷◌, length, Option, Some, None, if◌then◌else◌}
use Rattle.chi_lanes.specs.Numbers.{◌>>=◌, digit_of, digits_after}

-- a number that isn't above the most
abbrev pub up_to : ℕ → ℕ → Option ℕ
up_to most n = if nat_le n most then Some n else None

-- the number that begins with the digits of this one, and goes on with those of a text; none once it is above the most
-- (`digits_from` of chi_trace)
unfoldable pub digits_within : ℕ → ℕ → List ℕ → Option ℕ
digits_within most n [] = Some n
digits_within most n (d ∷ ds) = (digit_of d >>= λ v. up_to most (n * 16 + v)) >>= λ m. digits_within most m ds

-- digits read within a most write the whole number, if that isn't above the most
abbrev pub WithinIsUpTo : Type 0
WithinIsUpTo = (most n : ℕ) (ds : List ℕ) → n ≤ most → digits_within most n ds ≡ (digits_after n ds >>= up_to most)

-- sixteen digits are never above the most that 64 bits hold
abbrev pub SixteenAreWithin : Type 0
SixteenAreWithin = (ds : List ℕ) → length ds ≤ 16 → digits_within (2 ^ 64 - 1) 0 ds ≡ digits_after 0 ds
