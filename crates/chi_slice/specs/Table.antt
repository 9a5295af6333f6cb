-- The place of an agent's slot by the rows of the table (docs/PROTOCOL.md, "Agreement").
use Rattle.std.specs.Prelude.{◌≡◌, ◌↔◌, ℕ, true, Option}
use Rattle.chi_flit.specs.declared.numbers.Slot.{Slot}
use Rattle.chi_line.specs.declared.position.Position.{Position}
use Rattle.chi_line.specs.Table.{IsFound}
use Rattle.chi_slice.specs.declared.places.RequestPlace.{RequestPlace}
use Rattle.chi_slice.specs.Slice.{SliceState, is_line_in_range, line}
use Rattle.chi_slice.specs.Index.{at_line}

-- of each line of the slice the place says that the slot is there, or nothing, exactly where the table says so
abbrev pub IsByTable : SliceState → ℕ → Slot → Option RequestPlace → Type 0
IsByTable s n slot place =
    (l : ℕ) (found : Option Position) → is_line_in_range s l ≡ true → (at_line place l ≡ found) ↔ IsFound (line s l) n slot found
