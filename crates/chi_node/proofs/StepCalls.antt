-- A step that isn't refused, of a requester that agrees: what it asks of the account is met.
use Rattle.std.proofs.Common.{◌≡◌, ℕ, ◌<◌, ◌==◌, List, Bool, true, false, not, nat_lt, Option, Some, None, refl, sym, ap, ◌∙◌, subst, subst₂, if◌then◌else◌}
use Rattle.std.proofs.lemmas.Bool.{ltb-true}
use Rattle.chi_flit.specs.declared.numbers.Agent.{Agent}
use Rattle.chi_flit.specs.declared.numbers.Line.{Line}
use Rattle.chi_flit.specs.declared.numbers.Slot.{Slot}
use Rattle.chi_flit.specs.declared.action.Action.{Action}
use Rattle.chi_flit.specs.declared.action.Effect.{Effect}
use Rattle.chi_flit.specs.declared.action.Step.{Step}
use Rattle.chi_flit.specs.declared.action.Step.TheVariants as steps
use Rattle.chi_flit.specs.declared.credit.CreditType.{CreditType}
use Rattle.chi_flit.specs.declared.credit.CreditType.TheVariants as types
use Rattle.chi_flit.specs.declared.kind.Kind.{Kind}
use Rattle.chi_flit.specs.declared.credit.Profile.{Profile}
use Rattle.chi_flit.specs.declared.refusal.Refusal.TheVariants.{NoCredit, OutOfRange}
use Rattle.chi_flit.specs.Credit.{credit_number, credit_type_of}
use Rattle.chi_tracker.specs.declared.released.Released.{Released}
use Rattle.chi_slice.specs.Words.{cells_of, effect_of, has_type, is_comp, is_of_type, line_refusal, marked_credit_refusal as line_credit_refusal, pending_credit, pending_kind_of}
use Rattle.chi_slice.specs.Words.{pending_slot, resend_refusal, rn_of, Pending}
use Rattle.chi_slice.proofs.Passed.{flit_there, neither}
use Rattle.chi_slice.specs.Index.{SlotsInRange}
use Rattle.chi_slice.specs.Slice.{SliceKept, SliceState, slice_after, conditions_under, is_in_range, line, moved_by, action_refusal, refused_under}
use Rattle.chi_slice.proofs.Refusing.{allowed_alone}
use Rattle.chi_slice.specs.Positions as places
use Rattle.chi_slice.proofs.Acts.{Allowed, allowed, kept_acted}
use Rattle.chi_slice.proofs.Rows.{InRange, both, in_range}
use Rattle.chi_slice.proofs.SliceMoves.{slice_moves}
use Rattle.chi_credit.specs.declared.slot.SlotState.{SlotState}
use Rattle.chi_credit.specs.declared.slot.SlotState.TheVariants as states
use Rattle.chi_credit.specs.Slot.{in_state, is_idle_state}
use Rattle.chi_credit.specs.Account.{slot_record_at, state_at, type_at}
use Rattle.chi_node.specs.Requester.{RequesterKept, RequesterState}
use Rattle.chi_node.specs.Agree.{Agree, MatchesRecord, KeepsAgreement}
use Rattle.chi_node.specs.Calls.{BothKept, CountsStep, is_own_step, place_at}
use Rattle.chi_node.specs.Outstanding.{credits_for, has_spare, names_taken, outstanding_of}
use Rattle.chi_node.specs.AfterStep.{CanFinish, CanResend, Finishes, StepPlace, place_in}
use Rattle.chi_node.proofs.Matches.{index_low, itself, same_number}
use Rattle.chi_node.proofs.Agreement.{action_of, counts_step, keeps}
use Rattle.chi_node.proofs.Records.{restated, tells_of}
use Rattle.chi_node.proofs.Stepping.{Fine, Ready, answer_fine, change_fine, comp_fine, fine_end, fine_load, fine_start, fine_step, issue_fine, no_slot_moves}

pub ready_by : (s : SliceState) (agent : Agent) (l : Line) (step : Step) (r : RequesterState) → agent.0 ≡ r.number → SliceKept s → SlotsInRange s → action_refusal s (action_of agent l step) ≡ None → Agree s r → RequesterKept r.port.shape.sizes r → Ready s agent l step r
ready_by s agent l step r own kept numbers may agrees requester =
    let by : Allowed s (action_of agent l step) = allowed s (action_of agent l step) may in
    let inside : InRange s (action_of agent l step) = in_range s (action_of agent l step) kept by.inside in
    record {
      kept = kept;
      numbers = numbers;
      low = inside.agent;
      here = inside.line;
      moves = (slice_moves s (action_of agent l step) kept may).moved;
      eight = requester.eight;
      counts = requester.slices;
      index = index_low s kept;
      matching = λ slot low. subst (λ (n : ℕ). MatchesRecord s n slot (slot_record_at r.slots slot.0)) (sym own) (agrees.slots slot low);
    }

-- a step that isn't refused to its requester, which agrees with the slice
pub record CanStep (s : SliceState) (r : RequesterState) (action : Action) : Type 0 where
  pub both : BothKept s r
  pub agrees : Agree s r
  pub own : action.agent.0 ≡ r.number
  pub mine : is_own_step action.step ≡ true
  pub free : names_taken r.slots action.step ≡ false
  pub may : refused_under (credits_for (outstanding_of r) action.step) s action ≡ None

pub can_step : (s : SliceState) (r : RequesterState) (action : Action) (credits : List Bool) → BothKept s r → Agree s r → action.agent.0 ≡ r.number → is_own_step action.step ≡ true → names_taken r.slots action.step ≡ false → credits ≡ credits_for (outstanding_of r) action.step → None ≡ refused_under credits s action → CanStep s r action
can_step s r action credits both agrees own mine free is may = record { both = both; agrees = agrees; own = own; mine = mine; free = free; may = ap (λ (z : List Bool). refused_under z s action) (sym is) ∙ sym may }

pub ready_of : (s : SliceState) (agent : Agent) (l : Line) (step : Step) (r : RequesterState) → CanStep s r (action_of agent l step) → Ready s agent l step r
ready_of s agent l step r can = ready_by s agent l step r can.own can.both.slice can.both.slots (allowed_alone (credits_for (outstanding_of r) step) s (action_of agent l step) can.may) can.agrees can.both.requester

-- its line doesn't refuse it
inside : (s : SliceState) (r : RequesterState) (action : Action) → CanStep s r action → is_in_range s action ≡ true
inside s r action can = (allowed s action (allowed_alone (credits_for (outstanding_of r) action.step) s action can.may)).inside

by_line : (s : SliceState) (r : RequesterState) (action : Action) → CanStep s r action → line_refusal (conditions_under (credits_for (outstanding_of r) action.step) s action) (line s action.line.0) action ≡ None
by_line s r action can =
    sym (ap (λ (b : Bool). if b then line_refusal (conditions_under (credits_for (outstanding_of r) action.step) s action) (line s action.line.0) action else Some OutOfRange) (inside s r action can)) ∙ can.may

-- an Issue's slot is Idle
idle_of : (state : SlotState) → not (is_idle_state state) ≡ false → state ≡ states.Idle
idle_of states.Idle free = refl
idle_of other free = absurd (cc (free))

-- a Resend has a spare credit of its type
pub given : (b : Bool) → (if b then None else Some NoCredit) ≡ None → b ≡ true
given true h = refl
given false h = absurd (cc (h))

spare : (r : RequesterState) (ty : CreditType) → line_credit_refusal (credits_for (outstanding_of r) steps.Resend) (Some ty) ≡ None → has_spare (outstanding_of r) (credit_number ty) ≡ true
spare r types.T0 h = given (has_spare (outstanding_of r) 0) h
spare r types.T1 h = given (has_spare (outstanding_of r) 1) h
spare r types.T2 h = given (has_spare (outstanding_of r) 2) h
spare r types.T3 h = given (has_spare (outstanding_of r) 3) h

free_credit : (r : RequesterState) (profile : Profile) (pending : Option Pending) (slot : Slot) (ty : CreditType) → pending_slot pending ≡ Some slot → has_type profile ty (pending_kind_of pending slot) ≡ true
    → line_credit_refusal (credits_for (outstanding_of r) steps.Resend) (pending_credit profile pending) ≡ None → has_spare (outstanding_of r) (credit_number ty) ≡ true
free_credit r profile None slot ty is typed free = absurd (cc (is))
free_credit r profile (Some request) slot ty is typed free =
    let same : request.slot ≡ slot = cc (is) in
    let here : (request.slot.0 == slot.0) ≡ true = subst (λ (z : Slot). (request.slot.0 == z.0) ≡ true) same (itself request.slot.0) in
    let kind : has_type profile ty (Some request.kind) ≡ true = subst (λ (b : Bool). has_type profile ty (if b then Some request.kind else None) ≡ true) here typed in
    subst (λ (t : ℕ). has_spare (outstanding_of r) t ≡ true) (same_number (credit_number (credit_type_of profile request.kind)) (credit_number ty) kind) (spare r (credit_type_of profile request.kind) free)

has_credit : (s : SliceState) (r : RequesterState) (agent : Agent) (l : Line) (slot : Slot) → CanStep s r (action_of agent l steps.Resend) → pending_slot (rn_of (line s l.0) agent.0).pending ≡ Some slot
    → is_of_type s.config.profile (slot_record_at r.slots slot.0).credit (line s l.0) agent.0 slot ≡ true → has_spare (outstanding_of r) (type_at r.slots slot.0) ≡ true
has_credit s r agent l slot can is typed =
    let rn = rn_of (line s l.0) agent.0 in
    free_credit r s.config.profile rn.pending slot (slot_record_at r.slots slot.0).credit is (both (has_type s.config.profile (slot_record_at r.slots slot.0).credit (pending_kind_of rn.pending slot)) _ typed).0
    (neither (resend_refusal rn) (line_credit_refusal (credits_for (outstanding_of r) steps.Resend) (pending_credit s.config.profile rn.pending)) (by_line s r (action_of agent l steps.Resend) can)).1

idle_slot : (s : SliceState) (r : RequesterState) (agent : Agent) (l : Line) (kind : Kind) (slot : Slot) → CanStep s r (action_of agent l (steps.Issue kind slot)) → (slot.0 < 8) × (state_at r.slots slot.0 ≡ states.Idle)
idle_slot s r agent l kind slot can =
    let action : Action = action_of agent l (steps.Issue kind slot) in
    let eight : nat_lt slot.0 8 ≡ true = (in_range s action can.both.slice (inside s r action can)).step in
    (ltb-true slot.0 8 eight, idle_of (state_at r.slots slot.0) can.free)

-- what each step asks of the account, and what it leaves
pub fine : (s : SliceState) (agent : Agent) (l : Line) (step : Step) (r : RequesterState) → CanStep s r (action_of agent l step) → Fine s agent l step r (effect_of (line s l.0) (action_of agent l step))
fine s agent l (steps.Load word) r can =
    let ready = ready_of s agent l (steps.Load word) r can in
    fine_load s agent l (steps.Load word) r _ ready (ready.index, no_slot_moves s agent l (steps.Load word) r ready refl)
fine s agent l (steps.Store word value) r can =
    let ready = ready_of s agent l (steps.Store word value) r can in
    fine_step s agent l (steps.Store word value) r ready
    (ready.index, no_slot_moves s agent l (steps.Store word value) r ready refl)
fine s agent l (steps.Issue kind slot) r can =
    let ready = ready_of s agent l (steps.Issue kind slot) r can in
    let idle = idle_slot s r agent l kind slot can in
    fine_step s agent l (steps.Issue kind slot) r ready (issue_fine s agent l kind slot r ready idle.0 idle.1)
fine s agent l steps.Admit r can = absurd (cc (can.mine))
fine s agent l steps.Retry r can = absurd (cc (can.mine))
fine s agent l steps.RecvRetry r can =
    let ready = ready_of s agent l steps.RecvRetry r can in
    fine_step s agent l steps.RecvRetry r ready (change_fine s agent l steps.RecvRetry r places.Refused (λ k. state_at r.slots k ≡ states.Refused) (in_state states.Retried) ready refl refl refl
    (λ slot its. (tells_of (slot_record_at r.slots slot.0) places.Refused its.tells, restated (slot_record_at r.slots slot.0) states.Retried (Some places.Retried) refl)))
fine s agent l steps.Resend r can =
    let ready = ready_of s agent l steps.Resend r can in
    fine_step s agent l steps.Resend r ready (change_fine s agent l steps.Resend r places.Retried (CanResend r) (in_state states.Riding) ready refl refl refl
    (λ slot its. ((tells_of (slot_record_at r.slots slot.0) places.Retried its.tells, has_credit s r agent l slot can its.is its.typed), restated (slot_record_at r.slots slot.0) states.Riding (Some places.Resent) refl)))
fine s agent l steps.Cancel r can =
    let ready = ready_of s agent l steps.Cancel r can in
    fine_step s agent l steps.Cancel r ready (change_fine s agent l steps.Cancel r places.Retried (λ k. state_at r.slots k ≡ states.Retried) (in_state states.Cancelled) ready refl refl refl
    (λ slot its. (tells_of (slot_record_at r.slots slot.0) places.Retried its.tells, restated (slot_record_at r.slots slot.0) states.Cancelled None refl)))
fine s agent l steps.Start r can = fine_start s agent l r (effect_of (line s l.0) (action_of agent l steps.Start)) (ready_of s agent l steps.Start r can) refl
fine s agent l steps.RecvData r can =
    let ready = ready_of s agent l steps.RecvData r can in
    fine_step s agent l steps.RecvData r ready (answer_fine s agent l steps.RecvData r ready refl refl refl refl)
fine s agent l steps.RecvDbid r can =
    let ready = ready_of s agent l steps.RecvDbid r can in
    fine_step s agent l steps.RecvDbid r ready (answer_fine s agent l steps.RecvDbid r ready refl refl refl refl)
fine s agent l steps.RecvComp r can =
    let ready = ready_of s agent l steps.RecvComp r can in
    let there = (cells_of (line s l.0) agent.0).rsp_down in
    fine_step s agent l steps.RecvComp r ready (comp_fine s agent l r there ready refl (flit_there (is_comp there) (by_line s r (action_of agent l steps.RecvComp) can)))
fine s agent l steps.RecvAck r can = fine_end s agent l steps.RecvAck r (effect_of (line s l.0) (action_of agent l steps.RecvAck)) (ready_of s agent l steps.RecvAck r can) refl refl refl refl refl refl
fine s agent l steps.RecvWrData r can = fine_end s agent l steps.RecvWrData r (effect_of (line s l.0) (action_of agent l steps.RecvWrData)) (ready_of s agent l steps.RecvWrData r can) refl refl refl refl refl refl
fine s agent l other r can =
    let ready = ready_of s agent l other r can in
    fine_step s agent l other r ready (tt, no_slot_moves s agent l other r ready refl)

-- a step can be followed, and keeps agreement and its history
pub can_finish : (s : SliceState) (r : RequesterState) (action : Action) (at : StepPlace) (effect : Effect) → CanStep s r action → effect ≡ effect_of (line s action.line.0) action → at ≡ place_at s action → CanFinish at action.step effect r
can_finish s r action at effect can is place = subst₂ (λ (p : StepPlace) (e : Effect). CanFinish p action.step e r) (sym place) (sym is) (fine s action.agent action.line action.step r can).can

pub record StepKept (s s' : SliceState) (action : Action) (r r' : RequesterState) : Type 0 where
  pub agreement : KeepsAgreement s s' r r'
  pub history : CountsStep s s' action r r'

pub step_kept : (s s' : SliceState) (r r' : RequesterState) (action : Action) (at : StepPlace) (effect : Effect) (released : Option Released) → CanStep s r action → effect ≡ effect_of (line s action.line.0) action → s' ≡ slice_after s action → at ≡ place_at s action
    → Finishes at action.step effect released r r' → StepKept s s' action r r'
step_kept s s' r r' action at effect released can is after place finishes =
    let ready = ready_of s action.agent action.line action.step r can in
    let legal = (kept_acted s action can.both.slice (allowed s action (allowed_alone (credits_for (outstanding_of r) action.step) s action can.may))).legal in
    let follows = (fine s action.agent action.line action.step r can).after released r' (subst₂ (λ (p : StepPlace) (e : Effect). Finishes p action.step e released r r') place is finishes) in
    subst (λ (z : SliceState). StepKept s z action r r') (sym after) (record {
      agreement = keeps s action.agent action.line action.step r r' can.both.slice ready.low ready.here ready.moves can.own follows;
      history = counts_step s action.agent action.line action.step r r' can.both.slice ready.low ready.here can.own follows can.agrees legal;
    })

pub place_is : (s s' : SliceState) (action : Action) (slot : Option Slot) → s' ≡ slice_after s action → slot ≡ moved_by s action → place_in s' action.line slot ≡ place_at s action
place_is s s' action slot after moved = λ i. place_in (after i) action.line (moved i)
