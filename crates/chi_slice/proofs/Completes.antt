-- Which request an action would complete: nothing refuses it, and its row has that effect.
use Rattle.std.proofs.Common.{◌≡◌, ◌↔◌, ℕ, List, Bool, true, false, Option, Some, None, if◌then◌else◌, refl, sym, ◌∙◌, ap, subst}
use Rattle.chi_flit.specs.declared.numbers.Agent.{Agent}
use Rattle.chi_flit.specs.declared.numbers.Line.{Line}
use Rattle.chi_flit.specs.declared.numbers.Slot.{Slot}
use Rattle.chi_flit.specs.declared.action.Action.{Action}
use Rattle.chi_flit.specs.declared.action.Effect.{Effect}
use Rattle.chi_flit.specs.declared.action.Effect.TheVariants.{Nothing, Value, Completed}
use Rattle.chi_flit.specs.declared.action.Step.{Step}
use Rattle.chi_flit.specs.declared.action.Step.TheVariants as steps
use Rattle.chi_flit.specs.declared.credit.Profile.{Profile}
use Rattle.chi_flit.specs.declared.kind.Kind.{Kind}
use Rattle.chi_flit.specs.declared.kind.Kind.TheVariants.{Evict}
use Rattle.chi_flit.specs.declared.refusal.Refusal.{Refusal}
use Rattle.chi_flit.specs.declared.refusal.Refusal.TheVariants.{OutOfRange}
use Rattle.chi_flit.specs.Kind.{snoop_of}
use Rattle.chi_rnline.specs.Rn.{word_of}
use Rattle.chi_journal.specs.declared.record.Record.{Record}
use Rattle.chi_homeline.specs.declared.serving.Serving.{Serving}
use Rattle.chi_homeline.specs.declared.serving.Serving.TheVariants as serving
use Rattle.chi_homeline.specs.declared.serving.Waiting.{Waiting}
use Rattle.chi_homeline.specs.Home.{Home, served_slot, started_sends_as}
use Rattle.chi_line.specs.declared.act.Conditions.{Conditions}
use Rattle.chi_line.specs.LineState.{LineState, cells_of, rn_of}
use Rattle.chi_line.specs.Meaning.{serving_of, standing_of}
use Rattle.chi_line.specs.Protocol.{LineStep, Standing, StartRow}
use Rattle.chi_line.specs.Protocol.Serving.{AwaitingCompAck, AwaitingWriteData}
use Rattle.chi_line.specs.Refused.{completed_at, line_refusal, step_refusal}
use Rattle.chi_line.specs.Step.{completed_effect, effect_of, slot_unless, started_effect, step_effect, waiting_effect}
use Rattle.chi_slice.specs.Protocol.{SliceStep, WouldComplete, refused}
use Rattle.chi_slice.specs.Slice.{SliceKept, SliceState, action_refusal, is_in_range, line, slice_after}
use Rattle.chi_slice.proofs.Acts.{allowed}
use Rattle.chi_slice.proofs.Computed.{done_by_row}
use Rattle.chi_slice.proofs.Refused.{refused_is}
use Rattle.chi_slice.proofs.Refusing.{conditions_of}

-- the slot that the code finds
abbrev pub completes : SliceState → Action → Option Slot
completes s action = slot_unless (action_refusal s action) (effect_of (line s action.line.0) action)

-- (only the steps that complete something have an effect with a slot)
no_slot : (refusal : Option Refusal) → slot_unless refusal Nothing ≡ None
no_slot None = refl
no_slot (Some refusal) = refl

no_value_slot : (refusal : Option Refusal) (value : ℕ) → slot_unless refusal (Value value) ≡ None
no_value_slot None value = refl
no_value_slot (Some refusal) value = refl

completed_here : (c : Conditions) (s : LineState) (agent : Agent) (step : Step) → slot_unless (step_refusal c s agent step) (step_effect s agent step) ≡ completed_at s.home (cells_of s agent.0) agent step
completed_here c s agent (steps.Load word) = no_value_slot (step_refusal c s agent (steps.Load word)) (word_of (rn_of s agent.0) word.0)
completed_here c s agent steps.Start = refl
completed_here c s agent steps.RecvAck = refl
completed_here c s agent steps.RecvWrData = refl
completed_here c s agent other = no_slot (step_refusal c s agent other)

-- the line's slot is the slice's
pub completes_at : (s : SliceState) (action : Action) → is_in_range s action ≡ true → completed_at (line s action.line.0).home (cells_of (line s action.line.0) action.agent.0) action.agent action.step ≡ completes s action
completes_at s action inside =
    sym (completed_here (conditions_of s action) (line s action.line.0) action.agent action.step)
    ∙ ap (λ (b : Bool). slot_unless (if b then line_refusal (conditions_of s action) (line s action.line.0) action else Some OutOfRange) (effect_of (line s action.line.0) action)) (sym inside)

found : (refusal : Option Refusal) (effect : Effect) (slot : Slot) → slot_unless refusal effect ≡ Some slot → (refusal ≡ None) × (effect ≡ Completed slot)
found None (Completed own) slot e = (refl, cc (e))
found None Nothing slot e = absurd (cc (e))
found None (Value value) slot e = absurd (cc (e))
found (Some refusal) effect slot e = absurd (cc (e))

-- so it has its row
completes_by_row : (s : SliceState) (action : Action) (slot : Slot) → SliceKept s → completes s action ≡ Some slot → WouldComplete s action slot
completes_by_row s action slot k e =
    let is = found (action_refusal s action) (effect_of (line s action.line.0) action) slot e in
    let none : refused s action ≡ None = sym (refused_is s action) ∙ is.0 in
    record {
      allowed = none;
      step = (slice_after s action, subst (λ (effect : Effect). SliceStep s action effect (slice_after s action)) is.1 (done_by_row s action k none).step);
    }

-- AND THE ROW ALONE HAS THAT EFFECT
evicts : (kind : Kind) (own slot : Slot) (n : Agent) (s new : Standing) (home : Home) → StartRow kind n own s (Completed slot) new → started_effect (started_sends_as kind (snoop_of kind) home n own) ≡ Completed slot
evicts Evict own slot n s new home x = sym x.0
evicts other own slot n s new home x = absurd (cc (x.0))

acks : (v : Serving) (awaited : List Bool) (n : Agent) (own slot : Slot) → Completed slot ≡ Completed own → serving_of v awaited ≡ AwaitingCompAck n own → completed_effect (served_slot v) ≡ Completed slot
acks (serving.AwaitingCompAck agent at) awaited n own slot e is = cc (e, is)
acks other awaited n own slot e is = absurd (cc (is))

writes : (v : Serving) (awaited : List Bool) (n : Agent) (kind : Kind) (own slot : Slot) → Completed slot ≡ Completed own → serving_of v awaited ≡ AwaitingWriteData n kind own → completed_effect (served_slot v) ≡ Completed slot
writes (serving.AwaitingWriteData agent of at) awaited n kind own slot e is = cc (e, is)
writes other awaited n kind own slot e is = absurd (cc (is))

effect_by_row : (profile : Profile) (at : Line) (n : Agent) (step : Step) (l : LineState) (slot : Slot) (entry : Option Record) (new : Standing) → LineStep profile at n step (standing_of l) (Completed slot) entry new
    → step_effect l n step ≡ Completed slot
effect_by_row profile at n (steps.Load word) l slot entry new x = absurd (cc (x.3))
effect_by_row profile at n (steps.Store word value) l slot entry new x = absurd (cc (x.2))
effect_by_row profile at n steps.Start l slot entry new x =
    subst (λ (o : Option Waiting). waiting_effect l.home n o ≡ Completed slot) (sym x.2) (evicts x.1.kind x.1.slot slot n _ new l.home x.4)
effect_by_row profile at n steps.RecvAck l slot entry new x = acks l.home.serving l.home.awaited n x.0 slot x.1 x.3
effect_by_row profile at n steps.RecvWrData l slot entry new x = writes l.home.serving l.home.awaited n x.3 x.0 slot x.1 x.7
effect_by_row profile at n other l slot entry new x = absurd (cc (x.0.0))

row_completes : (s : SliceState) (action : Action) (slot : Slot) → WouldComplete s action slot → completes s action ≡ Some slot
row_completes s action slot w =
    let none : action_refusal s action ≡ None = refused_is s action ∙ w.allowed in
    let effect : effect_of (line s action.line.0) action ≡ Completed slot = effect_by_row s.config.profile action.line action.agent action.step (line s action.line.0) slot w.step.1.0 _ w.step.1.2 in
    ap (λ (o : Option Refusal). slot_unless o (effect_of (line s action.line.0) action)) none ∙ ap (λ (e : Effect). slot_unless None e) effect

pub completes_is : (s : SliceState) (action : Action) (slot : Slot) → SliceKept s → (completes s action ≡ Some slot) ↔ WouldComplete s action slot
completes_is s action slot k = (completes_by_row s action slot k, row_completes s action slot)

-- an action with a number out of its range completes nothing
pub none_outside : (s : SliceState) (action : Action) (slot : Slot) → is_in_range s action ≡ false → (None ≡ Some slot) ↔ WouldComplete s action slot
none_outside s action slot out = (λ e. absurd (cc (e)), λ w. let inside = (allowed s action (refused_is s action ∙ w.allowed)).inside in absurd (cc (out, inside)))
