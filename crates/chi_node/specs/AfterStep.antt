-- What a step does to its own agent's account and counts (docs/PROTOCOL.md, "A requester and its calls").
-- What completes a request does more, and stands apart.
use Rattle.std.specs.Prelude.{◌≡◌, ℕ, ◌<◌, ⊤, true, List, Option, Some, None, IfSome, IfNone, slice_index, slice_set}
use Rattle.chi_flit.specs.declared.numbers.Line.{Line}
use Rattle.chi_flit.specs.declared.numbers.Slot.{Slot}
use Rattle.chi_flit.specs.declared.numbers.Entry.{Entry}
use Rattle.chi_flit.specs.declared.action.Step.{Step}
use Rattle.chi_flit.specs.declared.action.Step.TheVariants as steps
use Rattle.chi_flit.specs.declared.action.Effect.{Effect}
use Rattle.chi_flit.specs.declared.action.Effect.TheVariants.{Nothing, Value, Completed}
use Rattle.chi_flit.specs.declared.credit.Profile.{Profile}
use Rattle.chi_flit.specs.Credit.{credit_type_of}
use Rattle.chi_tracker.specs.declared.released.Released.{Released}
use Rattle.chi_tracker.specs.Views.{has}
use Rattle.chi_tracker.specs.Calls.{HasSameCredits}
use Rattle.chi_tracker.specs.Sums.{without_bit}
use Rattle.chi_tracker.specs.Conduct.{ReleaseActs}
use Rattle.chi_credit.specs.declared.slot.SlotState.TheVariants.{Admitted, Idle, Refused, Retried, Riding, Cancelled}
use Rattle.chi_credit.specs.declared.slot.SlotRecord.{SlotRecord}
use Rattle.chi_credit.specs.Slot.{after_answer, after_finish, can_be_answered, in_state, is_admitted, opened_slot}
use Rattle.chi_credit.specs.Account.{slot_record_at, state_at, type_at}
use Rattle.chi_slice.specs.Slice.{SliceState}
use Rattle.chi_slice.specs.Words.{counted}
use Rattle.chi_node.specs.Requester.{Acted, RequesterState, with_both}
use Rattle.chi_node.specs.Outstanding.{has_spare, outstanding_of}

-- where a step was done: the line, the index and the profile of its slice, and the slot of the request that it moved, if
-- it moved one
pub record StepPlace : Type 0 where
  pub line : Line
  pub index : ℕ
  pub profile : Profile
  pub slot : Option Slot

abbrev pub place_in : SliceState → Line → Option Slot → StepPlace
place_in s l slot = record { line = l; index = s.index; profile = s.config.profile; slot = slot }

-- the record of a slot changes, if there is one
abbrev pub changed_at : Option Slot → (SlotRecord → SlotRecord) → List SlotRecord → List SlotRecord
changed_at None change slots = slots
changed_at (Some slot) change slots = slice_set slots slot.0 (change (slot_record_at slots slot.0))

-- the slots of an account after a step at a place
abbrev pub account_after : StepPlace → Step → List SlotRecord → List SlotRecord
account_after at (steps.Issue kind slot) slots = slice_set slots slot.0 (opened_slot at.line (credit_type_of at.profile kind))
account_after at steps.RecvRetry slots = changed_at at.slot (in_state Retried) slots
account_after at steps.Resend slots = changed_at at.slot (in_state Riding) slots
account_after at steps.Cancel slots = changed_at at.slot (in_state Cancelled) slots
account_after at steps.RecvData slots = changed_at at.slot after_answer slots
account_after at steps.RecvComp slots = changed_at at.slot after_answer slots
account_after at steps.RecvDbid slots = changed_at at.slot after_answer slots
account_after at other slots = slots

-- how many loads and stores each slice answered, up to the most that is counted, after a step at a place
abbrev pub counts_after : StepPlace → Step → List ℕ → List ℕ
counts_after at (steps.Load word) counts = slice_set counts at.index (counted (slice_index counts at.index))
counts_after at (steps.Store word value) counts = slice_set counts at.index (counted (slice_index counts at.index))
counts_after at other counts = counts

-- the requester after a step at a place
abbrev pub requester_after : StepPlace → Step → RequesterState → RequesterState
requester_after at step r = record r { slots = account_after at step r.slots; counts = counts_after at step r.counts }

-- there is a slot, one of the eight, and it meets a condition
abbrev pub SlotMeets : Option Slot → (ℕ → Type 0) → Type 0
SlotMeets None condition = ⊥
SlotMeets (Some slot) condition = (slot.0 < 8) × condition slot.0

-- when the request of slot s can be sent again: on a spare credit
abbrev pub CanResend : RequesterState → ℕ → Type 0
CanResend r s = (state_at r.slots s ≡ Retried) × (has_spare (outstanding_of r) (type_at r.slots s) ≡ true)

-- when a step can be followed: its slot is in the state that the step needs
abbrev pub CanFollow : StepPlace → Step → RequesterState → Type 0
CanFollow at (steps.Load word) r = at.index < 8
CanFollow at (steps.Store word value) r = at.index < 8
CanFollow at (steps.Issue kind slot) r = (slot.0 < 8) × (state_at r.slots slot.0 ≡ Idle)
CanFollow at steps.RecvRetry r = SlotMeets at.slot (λ s. state_at r.slots s ≡ Refused)
CanFollow at steps.Resend r = SlotMeets at.slot (CanResend r)
CanFollow at steps.Cancel r = SlotMeets at.slot (λ s. state_at r.slots s ≡ Retried)
CanFollow at steps.RecvData r = SlotMeets at.slot (λ s. can_be_answered (state_at r.slots s) ≡ true)
CanFollow at steps.RecvComp r = SlotMeets at.slot (λ s. can_be_answered (state_at r.slots s) ≡ true)
CanFollow at steps.RecvDbid r = SlotMeets at.slot (λ s. can_be_answered (state_at r.slots s) ≡ true)
CanFollow at other r = ⊤

-- the request of slot s was completed, and its entry, which was in hand, released
pub record CompletesRequest (s : ℕ) (released : Released) (old new : RequesterState) : Type 0 where
  pub held : (e : Entry) → state_at old.slots s ≡ Admitted e → has e.0 old.port ≡ 1
  pub credits : HasSameCredits old.port new.port
  pub after : new ≡ with_both new.port new.history (slice_set old.slots s (after_finish (slot_record_at old.slots s))) old
  pub acted : (e : Entry) × (state_at old.slots s ≡ Admitted e) × (new.port.hand ≡ without_bit old.port.hand e.0)
      × Acted (ReleaseActs old.port e.0 released) old new

-- when a step of this effect can be followed, and what it leaves and answers
abbrev pub CanFinish : StepPlace → Step → Effect → RequesterState → Type 0
CanFinish at step Nothing r = CanFollow at step r
CanFinish at step (Value word) r = CanFollow at step r
CanFinish at step (Completed slot) r = (slot.0 < 8) × (is_admitted (state_at r.slots slot.0) ≡ true)

abbrev pub Finishes : StepPlace → Step → Effect → Option Released → RequesterState → RequesterState → Type 0
Finishes at step (Completed slot) released old new = IfNone released ⊥ × IfSome released (λ r. CompletesRequest slot.0 r old new)
Finishes at step other released old new = (released ≡ None) × (new ≡ requester_after at step old)
