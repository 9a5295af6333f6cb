-- The index of the slots in use that a slice keeps, and what it says of the lines (docs/PROTOCOL.md,
-- "Agreement").
use Rattle.std.specs.Prelude.{◌≡◌, ℕ, ◌+◌, ◌*◌, ◌<◌, ◌≤◌, List, length, replicate, slice_set, Bool, true, false}
use Rattle.std.specs.Prelude.{Option, Some, None, ◌&&◌, ◌==◌, nat_lt}
use Rattle.std.specs.Prelude.{if◌then◌else◌}
use Rattle.std.specs.List.{slice_index_or}
use Rattle.chi_flit.specs.declared.numbers.Line.{Line}
use Rattle.chi_flit.specs.declared.numbers.Slot.{Slot}
use Rattle.chi_flit.specs.declared.credit.CreditType.{CreditType}
use Rattle.chi_line.specs.declared.position.Position.{Position}
use Rattle.chi_slice.specs.declared.places.RequestPlace.{RequestPlace}
use Rattle.chi_slice.specs.declared.places.SlotPlace.{SlotPlace}
use Rattle.chi_line.specs.LineState.{LineState}
use Rattle.chi_line.specs.Step.{line_uses}
use Rattle.chi_journal.specs.Journal.{Log}
use Rattle.chi_flit.specs.Config.{Sizes}
use Rattle.chi_slice.specs.Slice.{SliceKept, SliceState, is_line_in_range, line, slice_with}
use Rattle.chi_line.specs.Types.{is_of_type}
use Rattle.chi_line.specs.Places.{position_at}

-- whether there is such an agent and such a slot
abbrev pub is_slot_of : ℕ → Slot → Bool
is_slot_of n slot = nat_lt n 8 && nat_lt slot.0 8

-- what a place says of a line: nothing where it is at another one
abbrev pub at_line : Option RequestPlace → ℕ → Option Position
at_line None l = None
at_line (Some place) l = if place.line.0 == l then Some place.at else None

-- each line of the slice shows of an agent's slot what the place says of it
abbrev pub IsShown : SliceState → ℕ → Slot → Option RequestPlace → Type 0
IsShown s n slot place = (l : ℕ) → is_line_in_range s l ≡ true → position_at (line s l) n slot ≡ at_line place l

-- a place, if there is one, is at a line of the slice
abbrev pub IsInside : SliceState → Option RequestPlace → Type 0
IsInside s found = (place : RequestPlace) → found ≡ Some place → is_line_in_range s place.line.0 ≡ true

-- the number of an agent's slot among those of all agents
abbrev pub place_number : ℕ → Slot → ℕ
place_number n slot = n * 8 + slot.0

-- the place of an agent's slot in an index, which has one for each slot of each agent, or none
abbrev pub place_of : List (Option RequestPlace) → ℕ → Slot → Option RequestPlace
place_of places n slot = if is_slot_of n slot then slice_index_or places (place_number n slot) None else None

-- an index with another place for an agent's slot
abbrev pub with_place : List (Option RequestPlace) → ℕ → Slot → Option RequestPlace → List (Option RequestPlace)
with_place places n slot place = if is_slot_of n slot then slice_set places (place_number n slot) place else places

-- an index of no slots in use
abbrev pub no_places : List (Option RequestPlace)
no_places = replicate 64 None

-- the place of what a line shows
abbrev pub place_of_position : Line → Option Position → Option RequestPlace
place_of_position line None = None
place_of_position line (Some at) = Some (record { line = line; at = at })

-- the place of what is kept of a slot
abbrev pub place_of_spot : SlotPlace → Option RequestPlace
place_of_spot spot = place_of_position spot.line spot.at

-- an agent's slot has the credit type at each line of the slice
abbrev pub HasType : SliceState → CreditType → ℕ → Slot → Type 0
HasType s ty n slot = (l : ℕ) → is_line_in_range s l ≡ true → is_of_type s.config.profile ty (line s l) n slot ≡ true

-- whether an agent's slot has the credit type at its place
abbrev pub typed_at : SliceState → CreditType → ℕ → Slot → Option RequestPlace → Bool
typed_at s ty n slot None = true
typed_at s ty n slot (Some place) = is_of_type s.config.profile ty (line s place.line.0) n slot

-- no slot of a number above 7 is in use at any line
pub record SlotsInRange (s : SliceState) : Type 0 where
  pub unused : (n : ℕ) (slot : Slot) (l : ℕ) → n < 8 → 8 ≤ slot.0 → is_line_in_range s l ≡ true → line_uses (line s l) n slot ≡ false

-- an index of a slice: of each agent's slot it has the line where it is in use, if there is one, and what
-- that line shows; other slots are in use nowhere
pub record Indexed (s : SliceState) (places : List (Option RequestPlace)) : Type 0 where
  pub wide : length places ≡ 64
  pub shows : (n : ℕ) (slot : Slot) → n < 8 → slot.0 < 8 → IsShown s n slot (place_of places n slot)
  pub numbers : SlotsInRange s
  pub in_range : (n : ℕ) (slot : Slot) → n < 8 → slot.0 < 8 → IsInside s (place_of places n slot)

-- what a slice of these parts keeps, with its index
abbrev pub IsSliceIndexed : Sizes → ℕ → List LineState → Log → List (Option RequestPlace) → Type 0
IsSliceIndexed config index lines journal places = SliceKept (slice_with config index lines journal) × Indexed (slice_with config index lines journal) places

-- an index where a slot, if there is one, has another place on a line, or none
abbrev pub moved_in : List (Option RequestPlace) → ℕ → Line → Option Slot → Option Position → List (Option RequestPlace)
moved_in places n line None to = places
moved_in places n line (Some slot) to = with_place places n slot (place_of_position line to)
