-- What the lines of a slice show of a slot, by the rows of the table.
use Rattle.std.proofs.Common.{◌≡◌, ℕ, ◌<◌, true, Option, ◌↔◌, subst}
use Rattle.chi_flit.specs.declared.numbers.Slot.{Slot}
use Rattle.chi_line.specs.declared.position.Position.{Position}
use Rattle.chi_line.specs.Places.{position_at}
use Rattle.chi_line.specs.Table.{IsFound}
use Rattle.chi_line.proofs.TableRows.{rows_are}
use Rattle.chi_slice.specs.declared.places.RequestPlace.{RequestPlace}
use Rattle.chi_slice.specs.Slice.{SliceKept, SliceState, is_line_in_range, last_of, line}
use Rattle.chi_slice.specs.Index.{at_line}
use Rattle.chi_slice.specs.Table.{IsByTable}

-- at a line
pub rows_at : (s : SliceState) (n l : ℕ) (slot : Slot) (found : Option Position) → SliceKept s → n < 8 → is_line_in_range s l ≡ true → (position_at (line s l) n slot ≡ found) ↔ IsFound (line s l) n slot found
rows_at s n l slot found k low here = rows_are (last_of s l) (line s l) n slot found low (k.lines l here)

-- by the place that shows at all of them
pub by_table : (s : SliceState) (n : ℕ) (slot : Slot) (place : Option RequestPlace) → SliceKept s → n < 8 → ((l : ℕ) → is_line_in_range s l ≡ true → position_at (line s l) n slot ≡ at_line place l) → IsByTable s n slot place
by_table s n slot place k low shows = λ l found here. subst (λ (o : Option Position). (o ≡ found) ↔ IsFound (line s l) n slot found) (shows l here) (rows_at s n l slot found k low here)
