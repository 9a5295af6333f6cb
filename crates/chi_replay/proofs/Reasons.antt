-- Why the table of the commands refuses is why the node does.
use Rattle.std.proofs.Common.{◌≡◌, ℕ, ◌<◌, ◌≤◌, Bool, true, false, nat_lt, not, Option, Some, None, if◌then◌else◌, refl, sym, ap, subst, arith}
use Rattle.std.specs.Option.{option_or}
use Rattle.std.proofs.lemmas.Bool.{ltb-true}
use Rattle.chi_flit.specs.declared.numbers.Agent.{Agent}
use Rattle.chi_flit.specs.declared.numbers.Line.{Line}
use Rattle.chi_flit.specs.declared.action.Action.{Action}
use Rattle.chi_flit.specs.declared.credit.CreditType.{CreditType}
use Rattle.chi_flit.specs.declared.refusal.Refusal.{Refusal}
use Rattle.chi_flit.specs.declared.refusal.Refusal.TheVariants.{OutOfRange}
use Rattle.chi_node.specs.Words.{low}
use Rattle.chi_slice.specs.Words.{Sizes}
use Rattle.chi_slice.specs.Protocol.{refused}
use Rattle.chi_slice.specs.Slice.{SliceState, is_in_range}
use Rattle.chi_slice.proofs.Rows.{both}
use Rattle.chi_node.specs.Requester.{no_requester}
use Rattle.chi_node.specs.Outstanding.{Outstanding, give_back_refusal, outstanding_of, see_refusal, step_refusal, tend_refusal, typed_refusal}
use Rattle.chi_node.proofs.Openings.{few_entries}
use Rattle.chi_node.proofs.RowCalls.{admission, allowed_with}
use Rattle.chi_node.specs.Home.{slice_of}
use Rattle.chi_node.specs.System.{IsSystem, SystemState, arrive_refusal, give_back_refusal_in, requester_of, system_step_refusal, tend_refusal_in}
use Rattle.chi_node.proofs.Homes.{sizes_at}
use Rattle.chi_replay.specs.Turns.{act_refusal, return_refusal, tend_refusal_of}
use Rattle.chi_replay.specs.Session.{machine_of}
use Rattle.chi_replay.proofs.Machines.{requester_at}

-- an action, a tend, and a credit that is given back
pub act_same : (y : SystemState) (action : Action) → act_refusal (machine_of y) action ≡ system_step_refusal y action
act_same y action = ap (λ (o : Outstanding). step_refusal (slice_of y.home action.line.0) o action) (requester_at y action.agent)

pub tend_same : (y : SystemState) (agent : Agent) (ty : Option CreditType) → tend_refusal_of (machine_of y) agent ty ≡ tend_refusal_in y agent.0 ty
tend_same y agent ty = ap (λ (o : Outstanding). typed_refusal y.home agent.0 (tend_refusal o) ty) (requester_at y agent)

pub give_back_same : (y : SystemState) (agent : Agent) (ty : Option CreditType) → return_refusal (machine_of y) agent ty ≡ give_back_refusal_in y agent.0 ty
give_back_same y agent ty = ap (λ (o : Outstanding). typed_refusal y.home agent.0 (give_back_refusal o) ty) (requester_at y agent)

-- what isn't refused first
first_none : (a b : Option Refusal) → None ≡ option_or a b → None ≡ a
first_none None b h = refl
first_none (Some refusal) b h = absurd (cc (h))

unless_none : (c : Bool) → None ≡ (if c then None else Some OutOfRange) → c ≡ true
unless_none true h = refl
unless_none false h = absurd (cc (h))

in_range_first : (c : Bool) (o : Option Refusal) → None ≡ (if not c then Some OutOfRange else o) → c ≡ true
in_range_first true o h = refl
in_range_first false o h = absurd (cc (h))

low_agent : (y : SystemState) (n l : ℕ) → IsSystem y → nat_lt n (slice_of y.home l).config.agents ≡ true → n < y.home.config.agents
low_agent y n l k h = ltb-true n y.home.config.agents (subst (λ (c : Sizes). nat_lt n c.agents ≡ true) (sizes_at y.home l k.home) h)

-- who isn't refused is an agent of the node
pub arrives_low : (y : SystemState) (agent : Agent) (l : Line) → IsSystem y → None ≡ arrive_refusal y agent.0 l.0 → agent.0 < y.home.config.agents
arrives_low y agent l k h =
    let s : SliceState = slice_of y.home l.0 in
    low_agent y agent.0 l.0 k (both (nat_lt agent.0 s.config.agents) _ (in_range_first (is_in_range s (admission agent.0 l.0)) _ h)).0

pub steps_low : (y : SystemState) (action : Action) → IsSystem y → None ≡ system_step_refusal y action → action.agent.0 < y.home.config.agents
steps_low y action k h =
    let s : SliceState = slice_of y.home action.line.0 in
    let may = allowed_with s (outstanding_of (requester_of y action.agent.0)) action (sym h) in
    low_agent y action.agent.0 action.line.0 k (both (nat_lt action.agent.0 s.config.agents) _ (in_range_first (is_in_range s action) _ (first_none (refused s action) _ (sym may)))).0

pub agent_low : (y : SystemState) (agent : Agent) → None ≡ see_refusal y.home agent.0 → agent.0 < y.home.config.agents
agent_low y agent h = ltb-true agent.0 y.home.config.agents (unless_none (nat_lt agent.0 y.home.config.agents) h)

pub typed_low : (y : SystemState) (agent : Agent) (o : Option Refusal) → None ≡ option_or (see_refusal y.home agent.0) o → agent.0 < y.home.config.agents
typed_low y agent o h = agent_low y agent (first_none (see_refusal y.home agent.0) o h)

-- the entries of the node are few
pub few_there : (y : SystemState) (n : ℕ) → IsSystem y → n < y.home.config.agents → low (requester_of y n).port.shape 4 ≤ 256
few_there y n k at = rw (k.shapes n no_requester (omega (arith, at, k.count))) (few_entries y.home.config k.home.limits)
