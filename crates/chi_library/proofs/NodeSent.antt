-- What is told of a node's step or arrival is what its action sent and took at its line.
use Rattle.std.proofs.Common.{◌≡◌, ℕ, ◌&&◌, List, map, Bool, true, false, nat_lt, Option, Some, None, is_some, refl, ap, ◌∙◌, subst, if◌then◌else◌}
use Rattle.std.proofs.lemmas.Grind.{get_or-set_at}
use Rattle.chi_flit.specs.declared.action.Action.{Action}
use Rattle.chi_flit.specs.declared.action.Step.TheVariants as steps
use Rattle.chi_flit.specs.declared.message.Request.{Request}
use Rattle.chi_flit.specs.declared.numbers.Agent.{Agent}
use Rattle.chi_flit.specs.declared.numbers.Line.{Line}
use Rattle.chi_flit.specs.declared.refusal.Refusal.{Refusal}
use Rattle.chi_flit.specs.declared.refusal.Refusal.TheVariants.{MustAccept, OutOfRange}
use Rattle.chi_slice.specs.Words.{Serving, Sizes, cells_of, flit_of, flits_sent, no_flit_unless, retry_refusal}
use Rattle.chi_library.specs.Taken.{message_taken}
use Rattle.chi_slice.specs.Slice.{SliceKept, SliceState, action_refusal, is_line_in_range, line, opening_slice, slice_after}
use Rattle.chi_slice.proofs.Refused.{refused_is, with_credits_is}
use Rattle.chi_slice.proofs.Refusing.{allowed_alone}
use Rattle.chi_node.specs.declared.answers.Arrived.{Arrived}
use Rattle.chi_node.specs.declared.answers.Arrived.TheVariants.{Admitted, Retried}
use Rattle.chi_node.specs.Arrives.{Arrives}
use Rattle.chi_node.specs.Calls.{ArrivesAt, arrival_action, arrival_step}
use Rattle.chi_node.specs.Outstanding.{arrival_refusal, credits_for, outstanding_of}
use Rattle.chi_node.proofs.RowCalls.{admission, allowed_with}
use Rattle.chi_node.specs.Home.{HomeState, index_of, node_line, slice_of, slices_after}
use Rattle.chi_node.specs.Requester.{RequesterState}
use Rattle.chi_node.specs.System.{IsSystem, SystemState, requester_of, system_step_refusal}
use Rattle.chi_node.proofs.Homes.{is_low, sizes_at}
use Rattle.chi_library.specs.declared.flits.ChiSent.{ChiSent}
use Rattle.chi_library.specs.Flits.{no_sent, sent_told}
use Rattle.chi_library.specs.Listed.{IsListed}
use Rattle.chi_library.specs.NodeFlits.{node_sent_told, node_taken_told}
use Rattle.chi_library.specs.Standing.{line_standing, told_or}
use Rattle.chi_library.proofs.SentShown.{sent_is, taken_is, told_is}

-- the slice of its line did the action
pub slice_left : (y y' : SystemState) (action : Action) → IsSystem y → y'.home ≡ slices_after y.home action → slice_of y'.home action.line.0 ≡ slice_after (slice_of y.home action.line.0) action
slice_left y y' action k after =
    ap (λ (h : HomeState). slice_of h action.line.0) after
    ∙ get_or-set_at y.home.slices (index_of y.home action.line.0) (index_of y.home action.line.0) (slice_after (slice_of y.home action.line.0) action) (opening_slice y.home.config 0) refl (is_low y.home action.line.0 k.home)

-- and didn't refuse it: of a step
pub step_allowed : (y : SystemState) (action : Action) → system_step_refusal y action ≡ None → action_refusal (slice_of y.home action.line.0) action ≡ None
step_allowed y action may =
    let s : SliceState = slice_of y.home action.line.0 in
    let r : RequesterState = requester_of y action.agent.0 in
    allowed_alone (credits_for (outstanding_of r) action.step) s action (with_credits_is (credits_for (outstanding_of r) action.step) s action ∙ allowed_with s (outstanding_of r) action may)

-- and of an arrival
first_attempt : (b : Bool) (slot : ℕ) (ty : _) (r r' : RequesterState) → Arrives b slot (Retried ty) r r' → (if b then None else Some MustAccept) ≡ None
first_attempt true slot ty r r' at = refl
first_attempt false slot ty r r' at = absurd at

abbrev refusal_by : Bool → Bool → Option Request → Arrived → Option Refusal
refusal_by a b req (Admitted entry) = if a && (b && true) then no_flit_unless (is_some req) else Some OutOfRange
refusal_by a b req (Retried ty) = if a && (b && true) then retry_refusal req else Some OutOfRange

by_parts : (a b : Bool) (req : Option Request) (arrived : Arrived) (r r' : RequesterState) → (if a && (b && true) then no_flit_unless (is_some req) else Some OutOfRange) ≡ None → ArrivesAt req arrived r r' → refusal_by a b req arrived ≡ None
by_parts false b req arrived r r' may at = absurd (cc (may))
by_parts true false req arrived r r' may at = absurd (cc (may))
by_parts true true None arrived r r' may at = absurd at
by_parts true true (Some request) (Admitted entry) r r' may at = refl
by_parts true true (Some request) (Retried ty) r r' may at = first_attempt request.allow_retry request.slot.0 ty r r' at

pub arrival_allowed : (s : SliceState) (agent : Agent) (l : Line) (arrived : Arrived) (r r' : RequesterState) → arrival_refusal s agent.0 l.0 ≡ None → ArrivesAt (cells_of (line s l.0) agent.0).req arrived r r' → action_refusal s (arrival_action agent.0 l arrived) ≡ None
arrival_allowed s agent l (Admitted entry) r r' may at = by_parts (nat_lt agent.0 s.config.agents) (is_line_in_range s l.0) (cells_of (line s l.0) agent.0).req (Admitted entry) r r' (refused_is s (admission agent.0 l.0) ∙ may) at
arrival_allowed s agent l (Retried ty) r r' may at = by_parts (nat_lt agent.0 s.config.agents) (is_line_in_range s l.0) (cells_of (line s l.0) agent.0).req (Retried ty) r r' (refused_is s (admission agent.0 l.0) ∙ may) at

-- an Admit and a Retry take the same flit
pub arrival_told_is : (s : SliceState) (agent : Agent) (l : Line) (arrived : Arrived) (taken : ChiSent) → taken ≡ told_or (flit_of agent (message_taken (cells_of (line s l.0) agent.0) steps.Admit)) no_sent
    → taken ≡ told_or (flit_of agent (message_taken (cells_of (line s l.0) agent.0) (arrival_step arrived))) no_sent
arrival_told_is s agent l (Admitted entry) taken is = is
arrival_told_is s agent l (Retried ty) taken is = is

-- what is listed, and what is told as taken
pub node_sent_is : (y y' : SystemState) (action : Action) (before : Serving) (taken : ChiSent) (old array : List ChiSent) (count : ℕ) → IsSystem y → SliceKept (slice_of y.home action.line.0)
    → action_refusal (slice_of y.home action.line.0) action ≡ None → y'.home ≡ slices_after y.home action → before ≡ (node_line y.home action.line.0).home.serving
    → taken ≡ told_or (flit_of action.agent (message_taken (cells_of (node_line y.home action.line.0) action.agent.0) action.step)) no_sent
    → IsListed (map sent_told (line_standing (node_line y'.home action.line.0) action.agent before taken.flit action.step)) old array count
    → IsListed (node_sent_told y action) old array count
node_sent_is y y' action before taken old array count k kept may after served is listed =
    let s : SliceState = slice_of y.home action.line.0 in
    subst (λ (config : Sizes). IsListed (map sent_told (flits_sent config.profile (node_line y.home action.line.0) action.agent action.step)) old array count) (sizes_at y.home action.line.0 k.home)
    (sent_is s (slice_of y'.home action.line.0) action before taken.flit old array count kept may (slice_left y y' action k after) served (ap (λ (t : ChiSent). t.flit) (told_is s action taken is)) listed)

pub node_taken_is : (y : SystemState) (action : Action) (taken : ChiSent) → taken ≡ told_or (flit_of action.agent (message_taken (cells_of (node_line y.home action.line.0) action.agent.0) action.step)) no_sent
    → taken ≡ node_taken_told y action
node_taken_is y action taken is = taken_is (slice_of y.home action.line.0) action taken is
