-- Numbers in hexadecimal (docs/TRACES.md, "Traces").
use Rattle.std.specs.Prelude.{ℕ, ◌≡◌, ◌+◌, ◌-◌, ◌*◌, ◌%◌, ◌&&◌, nat_le, nat_lt, Bool, List, [], ◌∷◌, length, map, Option, Some, None, is_some, if◌then◌else◌}
use Rattle.std.specs.Option.{unwrap_or}
use Rattle.chi_lanes.specs.Masks.{Marks}
use Rattle.chi_lanes.specs.declared.digits.Digits.{Digits}

-- what a digit is worth, in letters of either case (`digit_of` of chi_trace)
abbrev pub digit_of : ℕ → Option ℕ
digit_of d =
    if nat_le 48 d && nat_le d 57 then Some (d - 48) else (
    if nat_le 97 d && nat_le d 102 then Some (d - 97 + 10) else (
    if nat_le 65 d && nat_le d 70 then Some (d - 65 + 10) else None))

abbrev pub is_digit : ℕ → Bool
is_digit d = is_some (digit_of d)

infixl 10 ◌>>=◌
abbrev pub ◌>>=◌ : {A B : Type 0} → Option A → (A → Option B) → Option B
None >>= next = None
(Some x) >>= next = next x

-- the number that begins with the digits of this one, and goes on with those of a text
unfoldable pub digits_after : ℕ → List ℕ → Option ℕ
digits_after n [] = Some n
digits_after n (d ∷ ds) = digit_of d >>= λ v. digits_after (n * 16 + v) ds

-- the number that a text of one digit or more writes
abbrev pub number_of : List ℕ → Option ℕ
number_of [] = None
number_of (d ∷ ds) = digits_after 0 (d ∷ ds)

-- the same, of sixteen digits at most
abbrev pub short_number : List ℕ → Option ℕ
short_number text = if nat_le (length text) 16 then number_of text else None

-- the number that the first of some texts writes
abbrev pub first_number : List (List ℕ) → Option ℕ
first_number [] = None
first_number (text ∷ texts) = short_number text

-- what a byte is worth as a digit, and 255 if it is none
abbrev pub worth_of : ℕ → ℕ
worth_of d = unwrap_or (digit_of d) 255

abbrev pub is_small : ℕ → Bool
is_small worth = nat_lt worth 16

-- four bits for each byte, the last byte's being the lowest: what it is worth, modulo 16
unfoldable pub packed_after : ℕ → List ℕ → ℕ
packed_after n [] = n
packed_after n (w ∷ ws) = packed_after (n * 16 + w % 16) ws

abbrev pub packed_of : List ℕ → ℕ
packed_of worths = packed_after 0 worths

-- what was read of sixteen bytes
pub record IsOf (digits : Digits) (bytes : List ℕ) : Type 0 where
  pub long : length bytes ≡ 16
  pub packed : digits.packed ≡ packed_of (map worth_of bytes)
  pub marks : Marks digits.marks is_digit bytes
