-- Agreement by the rows of the table (docs/PROTOCOL.md, "Agreement").
use Rattle.std.specs.Prelude.{◌≡◌, ◌↔◌, ℕ, ◌<◌, true, Option, slice_index}
use Rattle.chi_flit.specs.declared.credit.Profile.{Profile}
use Rattle.chi_flit.specs.declared.numbers.Slot.{Slot}
use Rattle.chi_slice.specs.Words.{is_of_type, part_count, IsAt, IsFound, LineState, Position}
use Rattle.chi_slice.specs.Slice.{SliceState, is_line_in_range, line}
use Rattle.chi_credit.specs.declared.slot.SlotRecord.{SlotRecord}
use Rattle.chi_credit.specs.Account.{slot_record_at}
use Rattle.chi_node.specs.Agree.{position_of_record}
use Rattle.chi_node.specs.Requester.{RequesterState}

-- of a line l the slot's record says that its request is there, or nothing, exactly where the table says so; and the
-- kinds that the line keeps of a slot that is found take the record's credit type
pub record ShowsByTable (profile : Profile) (z : LineState) (n : ℕ) (slot : Slot) (x : SlotRecord) (l : ℕ) : Type 0 where
  pub row : (found : Option Position) → (position_of_record x l ≡ found) ↔ IsFound z n slot found
  pub type : (at : Position) → IsAt z n slot at → is_of_type profile x.credit z n slot ≡ true

-- so of each slot does each line of a slice, and the count for the slice is how many loads and stores of the requester
-- its journal counts
pub record AgreeByTable (s : SliceState) (r : RequesterState) : Type 0 where
  pub slots : (slot : Slot) → slot.0 < 8 → (l : ℕ) → is_line_in_range s l ≡ true
      → ShowsByTable s.config.profile (line s l) r.number slot (slot_record_at r.slots slot.0) l
  pub count : slice_index r.counts s.index ≡ part_count s.journal r.number
