-- What the calls on a node refuse, do and tell, by C's numbers (docs/LIBRARY.md, "A node").
use Rattle.std.specs.Prelude.{◌≡◌, ℕ, [], ◌∷◌, Bool, true, false, Option, Some, None, replicate}
use Rattle.chi_node.specs.Words.{TableId, Released, Counts}
use Rattle.chi_flit.specs.declared.action.Action.{Action}
use Rattle.chi_flit.specs.declared.credit.CreditType.{CreditType}
use Rattle.chi_flit.specs.declared.numbers.Agent.{Agent}
use Rattle.chi_flit.specs.declared.numbers.Line.{Line}
use Rattle.chi_flit.specs.declared.refusal.Refusal.{Refusal}
use Rattle.chi_flit.specs.declared.refusal.Refusal.TheVariants.{OutOfRange}
use Rattle.chi_flit.specs.Credit.{credit_number}
use Rattle.chi_slice.specs.Slice.{SliceState}
use Rattle.chi_slice.specs.Words.{cells_of, line_view, load_count, store_count, Sizes}
use Rattle.chi_node.specs.declared.answers.Arrived.{Arrived}
use Rattle.chi_node.specs.declared.answers.Arrived.TheVariants.{Admitted, Retried}
use Rattle.chi_node.specs.declared.answers.Stepped.{Stepped}
use Rattle.chi_node.specs.Calls.{is_own_step}
use Rattle.chi_slice.specs.Audits.{IsAudited}
use Rattle.chi_node.specs.Home.{node_flits_refusal, node_last, node_line, node_view_refusal}
use Rattle.chi_node.specs.Credits.{ForType, GivesBack, Sees, Tends}
use Rattle.chi_node.specs.Outstanding.{see_refusal}
use Rattle.chi_node.specs.System.{SystemState, opening_system, arrive_refusal, give_back_refusal_in, system_step_refusal, tend_refusal_in, ArrivesIn, DoesAlone, Glances, StepsIn}
use Rattle.chi_node.specs.Releases.{Granted, Freed}
use Rattle.chi_library.specs.declared.actions.ChiAction.{ChiAction}
use Rattle.chi_library.specs.declared.actions.ChiEffect.{ChiEffect}
use Rattle.chi_library.specs.declared.node_told.ChiArrival.{ChiArrival}
use Rattle.chi_library.specs.declared.node_told.ChiAudit.{ChiAudit}
use Rattle.chi_library.specs.declared.node_told.ChiCredits.{ChiCredits}
use Rattle.chi_library.specs.declared.node_told.ChiRelease.{ChiRelease}
use Rattle.chi_library.specs.declared.node_told.ChiTotals.{ChiTotals}
use Rattle.chi_library.specs.declared.flits.ChiFlits.{ChiFlits}
use Rattle.chi_library.specs.declared.lines.ChiLine.{ChiLine}
use Rattle.chi_library.specs.Actions.{action_of, effect_told, no_effect}
use Rattle.chi_library.specs.Calls.{told_unless}
use Rattle.chi_library.specs.Flits.{flits_told, no_flits_told}
use Rattle.chi_library.specs.Lines.{line_told, no_line_told}
use Rattle.chi_library.specs.Numbers.{flag_number}

-- a node of these sizes opens, over a tracker's words of its own
abbrev pub OpensNode : Sizes → SystemState → Type 0
OpensNode config y = (table : TableId) × (y ≡ opening_system config table)

-- a call that is refused leaves the node as it was, and tells nothing; else it did this
abbrev pub Called : SystemState → SystemState → Option Refusal → Type 0 → Type 0 → Type 0
Called y y' None Did Nothing = Did
Called y y' (Some refusal) Did Nothing = (y' ≡ y) × Nothing

-- a call on a handle, by what it held and what it holds: a closed one stays closed, and an open one open
abbrev pub CalledOn : Option SystemState → Option SystemState → (SystemState → SystemState → Type 0) → Type 0
CalledOn None new Call = new ≡ None
CalledOn (Some y) None Call = ⊥
CalledOn (Some y) (Some y') Call = Call y y'

-- an arrival
abbrev pub no_arrival : ChiArrival
no_arrival = record { arrival = 0; entry = 0; credit = 0 }

abbrev pub arrival_told : Arrived → ChiArrival
arrival_told (Admitted entry) = record { arrival = 1; entry = entry.0; credit = 0 }
arrival_told (Retried ty) = record { arrival = 2; entry = 0; credit = credit_number ty }

abbrev pub IsArrivalTold : Agent → Line → ChiArrival → SystemState → SystemState → Type 0
IsArrivalTold agent l told y y' = (arrived : Arrived) × (told ≡ arrival_told arrived) × ArrivesIn y y' agent l arrived

abbrev pub ArrivalCall : Agent → Line → ChiArrival → SystemState → SystemState → Type 0
ArrivalCall agent l told y y' = Called y y' (arrive_refusal y agent.0 l.0) (IsArrivalTold agent l told y y') (told ≡ no_arrival)

-- where a released entry went
abbrev pub no_release : ChiRelease
no_release = record { release = 0; agent = 0 }

abbrev pub release_told : Released → ChiRelease
release_told Freed = record { release = 1; agent = 0 }
release_told (Granted agent) = record { release = 2; agent = agent.0 }

abbrev pub release_if : Option Released → ChiRelease
release_if None = no_release
release_if (Some released) = release_told released

-- the action of a requester's own that C's numbers name: none where they name none, or an arrival's
abbrev pub own_if : Bool → Action → Option Action
own_if true action = Some action
own_if false action = None

abbrev pub own_action : Option Action → Option Action
own_action None = None
own_action (Some action) = own_if (is_own_step action.step) action

abbrev pub own_of : ChiAction → Option Action
own_of a = own_action (action_of a)

abbrev pub IsOwnAction : Option Action → Type 0
IsOwnAction None = Unit {0}
IsOwnAction (Some action) = is_own_step action.step ≡ true

-- a step
abbrev pub node_step_refusal : Option Action → SystemState → Option Refusal
node_step_refusal None y = Some OutOfRange
node_step_refusal (Some action) y = system_step_refusal y action

abbrev pub IsStepTold : Option Action → ChiEffect → ChiRelease → SystemState → SystemState → Type 0
IsStepTold None effect release y y' = ⊥
IsStepTold (Some action) effect release y y' =
    (stepped : Stepped) × (effect ≡ effect_told stepped.effect) × (release ≡ release_if stepped.released)
    × StepsIn y y' action stepped

-- a step of which nothing is told
pub record IsUntold (effect : ChiEffect) (release : ChiRelease) : Type 0 where
  pub nothing : effect ≡ no_effect
  pub unreleased : release ≡ no_release

abbrev pub StepCall : Option Action → ChiEffect → ChiRelease → SystemState → SystemState → Type 0
StepCall own effect release y y' =
    Called y y' (node_step_refusal own y) (IsStepTold own effect release y y') (IsUntold effect release)

-- the calls of a requester that need no slice
abbrev pub no_credits_told : ChiCredits
no_credits_told = record { seen = 0 ∷ 0 ∷ 0 ∷ 0 ∷ [] }

abbrev pub Looks : Agent → ChiCredits → SystemState → SystemState → Type 0
Looks agent told y y' = DoesAlone y y' agent (Sees told.seen)

abbrev pub LookCall : Agent → ChiCredits → SystemState → SystemState → Type 0
LookCall agent told y y' = Called y y' (see_refusal y.home agent.0) (Looks agent told y y') (told ≡ no_credits_told)

abbrev pub IsGiveBackTold : Agent → Option CreditType → ChiRelease → SystemState → SystemState → Type 0
IsGiveBackTold agent ty told y y' = (released : Released) × (told ≡ release_told released) × DoesAlone y y' agent (ForType ty (λ t. GivesBack t released))

abbrev pub ReturnCall : Agent → Option CreditType → ChiRelease → SystemState → SystemState → Type 0
ReturnCall agent ty told y y' =
    Called y y' (give_back_refusal_in y agent.0 ty) (IsGiveBackTold agent ty told y y') (told ≡ no_release)

abbrev pub IsTendTold : Agent → Option CreditType → ChiRelease → SystemState → SystemState → Type 0
IsTendTold agent ty told y y' = (released : Option Released) × (told ≡ release_if released) × DoesAlone y y' agent (ForType ty (λ t. Tends t released))

abbrev pub TendCall : Agent → Option CreditType → ChiRelease → SystemState → SystemState → Type 0
TendCall agent ty told y y' = Called y y' (tend_refusal_in y agent.0 ty) (IsTendTold agent ty told y y') (told ≡ no_release)

-- a line, and the flits of an agent at one
abbrev pub node_show_told : ℕ → SystemState → ChiLine
node_show_told l y = told_unless (node_view_refusal y.home l) no_line_told (line_told (line_view (node_line y.home l) (node_last y.home l)))

abbrev pub node_flits_told : ℕ → ℕ → SystemState → ChiFlits
node_flits_told n l y = told_unless (node_flits_refusal y.home n l) no_flits_told (flits_told (cells_of (node_line y.home l) n))

-- the totals: counts that a glance may show, each under its own name
abbrev pub no_totals_told : ChiTotals
no_totals_told = record { free = replicate 4 0; hand = replicate 4 0; promised = replicate 4 0; owed = replicate 4 0 }

abbrev pub counts_told : Counts → ChiTotals
counts_told counts = record { free = counts.free; hand = counts.hand; promised = counts.promised; owed = counts.owed }

abbrev pub IsTotalsOf : Option SystemState → ChiTotals → Type 0
IsTotalsOf None told = told ≡ no_totals_told
IsTotalsOf (Some y) told = (counts : Counts) × (told ≡ counts_told counts) × Glances y counts

-- an audit
abbrev pub no_audit : ChiAudit
no_audit = record { loads = 0; stores = 0; coherent = 0 }

-- the loads and the stores of a slice, as its journal counts them, and that it is coherent, as each slice is
abbrev pub slice_audit : SliceState → ChiAudit
slice_audit s = record { loads = load_count s.journal; stores = store_count s.journal; coherent = 1 }

abbrev pub IsAuditOf : Option SystemState → ChiAudit → Type 0
IsAuditOf None told = told ≡ no_audit
IsAuditOf (Some y) told =
    (verdict : Bool) × (told.coherent ≡ flag_number verdict) × IsAudited y.home.slices told.loads told.stores verdict
