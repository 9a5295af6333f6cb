-- A step that was done or refused, of an action whose agent is the requester.
use Rattle.std.proofs.Common.{◌≡◌, ℕ, subst}
use Rattle.std.specs.Prelude.{None, Some}
use Rattle.chi_flit.specs.declared.action.Action.{Action}
use Rattle.chi_flit.specs.declared.refusal.Refusal.{Refusal}
use Rattle.chi_slice.specs.Slice.{SliceState}
use Rattle.chi_node.specs.declared.answers.Stepped.{Stepped}
use Rattle.chi_node.specs.Agree.{Agree}
use Rattle.chi_node.specs.Calls.{CountsStep, OrNotOpen, StepsTo}
use Rattle.chi_node.specs.Outstanding.{outstanding_of, step_refusal}
use Rattle.chi_node.specs.Requester.{RequesterState}
use Rattle.chi_agent.specs.Turns.{action_by, StepTried}

pub step_done : (s s' : SliceState) (action : Action) (r r' : RequesterState) (stepped : Stepped) → action.agent.0 ≡ r.number
    → OrNotOpen (step_refusal s (outstanding_of r) action) (Agree s r) None → StepsTo s s' action r r' stepped → CountsStep s s' action r r'
    → StepTried s s' (action_by r action.line action.step) r r' None
step_done s s' action r r' stepped who refusal steps counts =
    subst (λ (n : ℕ). StepTried s s' (record { agent = record { 0 = n }; line = action.line; step = action.step }) r r' None) who
    (record { refusal = refusal; ends = (stepped, steps, counts) })

pub step_refused : (s s' : SliceState) (action : Action) (r r' : RequesterState) (refusal : Refusal) → action.agent.0 ≡ r.number
    → OrNotOpen (step_refusal s (outstanding_of r) action) (Agree s r) (Some refusal) → (s' ≡ s) × (r' ≡ r)
    → StepTried s s' (action_by r action.line action.step) r r' (Some refusal)
step_refused s s' action r r' refusal who may stays =
    subst (λ (n : ℕ). StepTried s s' (record { agent = record { 0 = n }; line = action.line; step = action.step }) r r' (Some refusal)) who
    (record { refusal = may; ends = stays })
