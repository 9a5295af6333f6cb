-- When a requester agrees with a slice: what the slice shows of each of its slots is what the account says of
-- it, and the slice answered as many loads and stores as were counted (docs/PROTOCOL.md, "Agreement").
use Rattle.std.specs.Prelude.{◌≡◌, ◌≢◌, ℕ, ◌<◌, Bool, true, List, All, Option, Some, None, is_some, slice_index, ◌==◌, ◌&&◌, if◌then◌else◌}
use Rattle.chi_flit.specs.declared.credit.Profile.{Profile}
use Rattle.chi_flit.specs.declared.numbers.Slot.{Slot}
use Rattle.chi_slice.specs.Words.{is_of_type, part_count, position_at, LineState, Position}
use Rattle.chi_slice.specs.declared.places.RequestPlace.{RequestPlace}
use Rattle.chi_slice.specs.Index.{place_of_position}
use Rattle.chi_slice.specs.Positions as places
use Rattle.chi_slice.specs.Slice.{SliceState, is_line_in_range, line}
use Rattle.chi_credit.specs.declared.slot.SlotState.{SlotState}
use Rattle.chi_credit.specs.declared.slot.SlotState.TheVariants.{Admitted, Closing, Refused, Retried, Riding, Sent}
use Rattle.chi_credit.specs.declared.slot.SlotRecord.{SlotRecord}
use Rattle.chi_credit.specs.Account.{slot_record_at}
use Rattle.chi_node.specs.Requester.{RequesterState}

-- where the request of a slot is, by the slot's state and whether it is marked as answered
abbrev pub position_of_state : SlotState → Bool → Option Position
position_of_state Sent answered = Some places.Sent
position_of_state Refused answered = Some places.Refused
position_of_state Retried answered = Some places.Retried
position_of_state Riding answered = Some places.Resent
position_of_state (Admitted entry) answered = if answered then Some places.Answered else Some places.Admitted
position_of_state Closing answered = Some places.Closing
position_of_state other answered = None

-- where it is at a line, by the slot's record: nowhere where the record's line is another one
abbrev pub position_of_record : SlotRecord → ℕ → Option Position
position_of_record x l = if x.line.0 == l then position_of_state x.state x.answered else None

-- what a line l shows of an agent's slot is what the slot's record says, and the kinds that it keeps of it take
-- the record's credit type
pub record ShowsRecord (profile : Profile) (z : LineState) (n : ℕ) (slot : Slot) (x : SlotRecord) (l : ℕ) : Type 0 where
  pub place : position_at z n slot ≡ position_of_record x l
  pub type : (at : Position) → position_at z n slot ≡ Some at → is_of_type profile x.credit z n slot ≡ true

-- so does each line of a slice
pub record MatchesRecord (s : SliceState) (n : ℕ) (slot : Slot) (x : SlotRecord) : Type 0 where
  pub lines : (l : ℕ) → is_line_in_range s l ≡ true → ShowsRecord s.config.profile (line s l) n slot x l

-- the place that a slot's record says its request has, and whether that is in a slice
abbrev pub said_place : SlotRecord → Option RequestPlace
said_place x = place_of_position x.line (position_of_state x.state x.answered)

abbrev pub is_said_in : SliceState → SlotRecord → Bool
is_said_in s x = is_some (position_of_state x.state x.answered) && is_line_in_range s x.line.0

-- the count for the slice is how many loads and stores of the requester its journal counts
pub record Agree (s : SliceState) (r : RequesterState) : Type 0 where
  pub slots : (slot : Slot) → slot.0 < 8 → MatchesRecord s r.number slot (slot_record_at r.slots slot.0)
  pub count : slice_index r.counts s.index ≡ part_count s.journal r.number

-- each requester agrees with each slice
abbrev pub AllAgree : List SliceState → List RequesterState → Type 0
AllAgree slices requesters = All (λ s. All (Agree s) requesters) slices

-- what a call leaves of agreement: a requester that agreed with the slice agrees still, so does each other
-- requester, and with the node's other slices the requester agrees as before
pub record KeepsAgreement (s s' : SliceState) (r r' : RequesterState) : Type 0 where
  pub own : Agree s r → Agree s' r'
  pub others : (m : RequesterState) → m.number < 8 → m.number ≢ r.number → Agree s m → Agree s' m
  pub elsewhere : (t : SliceState) → t.config ≡ s.config → t.index ≢ s.index → Agree t r → Agree t r'
