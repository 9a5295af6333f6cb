-- Sets of the parts of a transaction, a bit each (docs/TRANSACTIONS.md, "Ids").
use Rattle.std.specs.Prelude.{ℕ, ◌==◌, Bool, bit_and, bit_or, bit_xor, not}
use Rattle.std.specs.Int.{bit_at}
use Rattle.chi_transactions.specs.declared.parts.Parts.{Parts}

abbrev pub parts_of : ℕ → Parts
parts_of bits = record { bits = bits }

-- the set of none
abbrev pub no_parts : Parts
no_parts = parts_of 0

abbrev pub is_empty : Parts → Bool
is_empty parts = parts.bits == 0

-- whether a part, by the number of its bit, is in a set
abbrev pub is_among : Parts → ℕ → Bool
is_among parts part = bit_at parts.bits part == 1

-- all of the other, one of the other; those that aren't in the other
abbrev pub has : Parts → Parts → Bool
has parts other = bit_and parts.bits other.bits == other.bits

abbrev pub meets : Parts → Parts → Bool
meets parts other = not (bit_and parts.bits other.bits == 0)

abbrev pub without : Parts → Parts → Parts
without parts other = parts_of (bit_xor parts.bits (bit_and parts.bits other.bits))

-- those of either; those of both
abbrev pub either : Parts → Parts → Parts
either parts other = parts_of (bit_or parts.bits other.bits)

abbrev pub both : Parts → Parts → Parts
both parts other = parts_of (bit_and parts.bits other.bits)
