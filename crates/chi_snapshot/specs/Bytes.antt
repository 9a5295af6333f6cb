-- How numbers, marks, what may be missing, and lists are written as bytes (docs/SNAPSHOTS.md).
-- The last byte of a number is all that is left of it: below 256, where the number fits.
use Rattle.std.specs.Prelude.{ℕ, ◌/◌, ◌%◌, List, [], ◌∷◌, ◌++◌, length, Bool, true, false, Option, Some, None}
use Rattle.std.specs.List.{flat_map}

-- a number in one byte
abbrev pub one_byte : ℕ → List ℕ
one_byte n = n ∷ []

-- a number in two bytes, the lower one first
abbrev pub two_bytes : ℕ → List ℕ
two_bytes n = n % 256 ∷ n / 256 ∷ []

-- a number in four bytes, the lower ones first
unfoldable pub four_bytes : ℕ → List ℕ
four_bytes n = two_bytes (n % 65536) ++ two_bytes (n / 65536)

-- a number in eight bytes, the lower ones first
unfoldable pub eight_bytes : ℕ → List ℕ
eight_bytes n = four_bytes (n % 4294967296) ++ four_bytes (n / 4294967296)

-- a mark: 1 where it is set, and 0 where not
abbrev pub mark_bytes : Bool → List ℕ
mark_bytes true = one_byte 1
mark_bytes false = one_byte 0

-- what may be missing: 0 where it is, and else 1 and its bytes
abbrev pub option_bytes : {A : Type 0} → (A → List ℕ) → Option A → List ℕ
option_bytes bytes None = one_byte 0
option_bytes bytes (Some x) = one_byte 1 ++ bytes x

-- a short list: how many there are in one byte, and the bytes of each
abbrev pub list_bytes : {A : Type 0} → (A → List ℕ) → List A → List ℕ
list_bytes bytes xs = one_byte (length xs) ++ flat_map bytes xs

-- a long list: how many there are in eight bytes, and the bytes of each
abbrev pub long_list_bytes : {A : Type 0} → (A → List ℕ) → List A → List ℕ
long_list_bytes bytes xs = eight_bytes (length xs) ++ flat_map bytes xs
