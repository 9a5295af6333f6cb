-- What a requester's credits add to why an action is refused.
use Rattle.std.proofs.Common.{◌≡◌, List, Bool, true, false, Option, Some, None, refl, replicate, if◌then◌else◌}
use Rattle.std.specs.Option.{option_or}
use Rattle.chi_flit.specs.declared.numbers.Agent.{Agent}
use Rattle.chi_flit.specs.declared.action.Action.{Action}
use Rattle.chi_flit.specs.declared.action.Step.{Step}
use Rattle.chi_flit.specs.declared.action.Step.TheVariants as steps
use Rattle.chi_flit.specs.declared.credit.CreditType.{CreditType}
use Rattle.chi_flit.specs.declared.credit.CreditType.TheVariants as types
use Rattle.chi_flit.specs.declared.credit.Profile.{Profile}
use Rattle.chi_flit.specs.declared.refusal.Refusal.{Refusal}
use Rattle.chi_flit.specs.declared.refusal.Refusal.TheVariants.{OutOfRange}
use Rattle.chi_journal.specs.Journal.{is_full}
use Rattle.chi_rnline.specs.Rn.{resend_refusal}
use Rattle.chi_line.specs.declared.act.Conditions.{Conditions}
use Rattle.chi_line.specs.LineState.{LineState, rn_of}
use Rattle.chi_line.specs.Refused.{marked_credit_refusal, line_refusal, step_refusal}
use Rattle.chi_line.specs.Types.{pending_credit}
use Rattle.chi_slice.specs.Slice.{SliceState, conditions_under, each_credit, is_in_range, is_slot_used, line, action_refusal, refused_under}

-- what an action has to know beside its line, by the slice alone
abbrev pub conditions_of : SliceState → Action → Conditions
conditions_of s action = conditions_under each_credit s action

abbrev conditions : Bool → List Bool → Bool → Profile → Conditions
conditions used credits full profile = record { slot_used = used; journal_full = full; credits = credits; profile = profile }

-- with a credit of each type none is lacking
pub all_credits : (ty : Option CreditType) → marked_credit_refusal (replicate 4 true) ty ≡ None
all_credits None = refl
all_credits (Some types.T0) = refl
all_credits (Some types.T1) = refl
all_credits (Some types.T2) = refl
all_credits (Some types.T3) = refl

-- what isn't refused with some credits isn't refused by the slice alone
resend_alone : (first : Option Refusal) (credits : List Bool) (ty : Option CreditType) → option_or first (marked_credit_refusal credits ty) ≡ None → option_or first (marked_credit_refusal (replicate 4 true) ty) ≡ None
resend_alone None credits ty may = all_credits ty
resend_alone (Some refusal) credits ty may = may

step_alone : (used : Bool) (credits : List Bool) (full : Bool) (profile : Profile) (l : LineState) (agent : Agent) (step : Step) → step_refusal (conditions used credits full profile) l agent step ≡ None
    → step_refusal (conditions used (replicate 4 true) full profile) l agent step ≡ None
step_alone used credits full profile l agent steps.Resend may = resend_alone (resend_refusal (rn_of l agent.0)) credits (pending_credit profile (rn_of l agent.0).pending) may
step_alone used credits full profile l agent other may = may

pub allowed_alone : (credits : List Bool) (s : SliceState) (action : Action) → refused_under credits s action ≡ None → action_refusal s action ≡ None
allowed_alone credits s action may = go (is_in_range s action) may
  where
    go : (b : Bool) → (if b then line_refusal (conditions_under credits s action) (line s action.line.0) action else Some OutOfRange) ≡ None
        → (if b then line_refusal (conditions_of s action) (line s action.line.0) action else Some OutOfRange) ≡ None
    go true may = step_alone (is_slot_used s action.agent.0 action.step) credits (is_full s.journal) s.config.profile (line s action.line.0) action.agent action.step may
    go false may = absurd (cc (may))
