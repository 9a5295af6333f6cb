-- What is listed of a step that is done is what it sent, and what is told as taken what it took.
use Rattle.std.proofs.Common.{◌≡◌, ℕ, ◌&&◌, List, map, Bool, true, false, nat_lt, Option, Some, None, refl, ap, ◌∙◌, subst, if◌then◌else◌}
use Rattle.chi_flit.specs.declared.action.Action.{Action}
use Rattle.chi_flit.specs.declared.action.Step.{Step}
use Rattle.chi_flit.specs.declared.action.Step.TheVariants as steps
use Rattle.chi_flit.specs.declared.numbers.Agent.{Agent}
use Rattle.chi_flit.specs.declared.refusal.Refusal.{Refusal}
use Rattle.chi_flit.specs.declared.refusal.Refusal.TheVariants.{OutOfRange}
use Rattle.chi_slice.specs.Words.{Flit, line_refusal, after, answer_in, LineState, Serving, SnoopAnswer, answer_flit, cells_of, flit_of, flit_taken, flits_sent, is_step_in_range}
use Rattle.chi_library.specs.Taken.{answer_message, message_taken}
use Rattle.chi_slice.specs.Slice.{SliceKept, SliceState, action_refusal, conditions_under, flits_refusal, is_in_range, is_line_in_range, last_of, line, each_credit, row_of_line, slice_after}
use Rattle.chi_slice.proofs.Rows.{InRange, in_range}
use Rattle.chi_slice.proofs.Slices.{line_in_row-with_line}
use Rattle.chi_library.specs.declared.flits.ChiFlit.{ChiFlit}
use Rattle.chi_library.specs.declared.flits.ChiSent.{ChiSent}
use Rattle.chi_library.specs.Flits.{no_sent, sent_told, taken_told}
use Rattle.chi_library.specs.Listed.{IsListed}
use Rattle.chi_library.specs.Standing.{line_standing, told_or}
use Rattle.chi_library.proofs.OwnFlits.{stands}
use Rattle.chi_library.proofs.SentLists.{told_over}

-- an action that isn't refused
record Allowed (s : SliceState) (action : Action) : Type 0 where
  inside : is_in_range s action ≡ true
  may : line_refusal (conditions_under each_credit s action) (line s action.line.0) action ≡ None
  left : line (slice_after s action) action.line.0 ≡ after s.config.profile (line s action.line.0) action

allowed : (s : SliceState) (action : Action) → SliceKept s → action_refusal s action ≡ None → Allowed s action
allowed s action k may =
    let both = go (is_in_range s action) refl may in
    record {
      inside = both.0;
      may = both.1;
      left = line_in_row-with_line s (row_of_line s action.line.0) (after s.config.profile (line s action.line.0) action) (in_range s action k both.0).row k;
    }
  where
    go : (b : Bool) → is_in_range s action ≡ b → (if b then line_refusal (conditions_under each_credit s action) (line s action.line.0) action else Some OutOfRange) ≡ None
        → (is_in_range s action ≡ true) × (line_refusal (conditions_under each_credit s action) (line s action.line.0) action ≡ None)
    go true is may = (is, may)
    go false is may = absurd (cc (may))

-- what a step takes
answer : (s : LineState) (agent : Agent) (found : Option SnoopAnswer) → flit_of agent (answer_message (cells_of s agent.0) found) ≡ answer_flit s agent found
answer s agent None = refl
answer s agent (Some found) = refl

takes : (s : LineState) (agent : Agent) (step : Step) → flit_of agent (message_taken (cells_of s agent.0) step) ≡ flit_taken s agent step
takes s agent steps.RecvSnpResp = answer s agent (answer_in (cells_of s agent.0))
takes s agent other = refl

-- what stands after an action is what it sent
pub shown : (s new : SliceState) (action : Action) (before : Serving) (taken : ChiFlit) → SliceKept s → action_refusal s action ≡ None → new ≡ slice_after s action
    → before ≡ (line s action.line.0).home.serving → taken ≡ (taken_told (flit_of action.agent (message_taken (cells_of (line s action.line.0) action.agent.0) action.step))).flit
    → line_standing (line new action.line.0) action.agent before taken action.step ≡ flits_sent s.config.profile (line s action.line.0) action.agent action.step
shown s new action before taken k may done served is =
    let may_do : Allowed s action = allowed s action k may in
    let inside : InRange s action = in_range s action k may_do.inside in
    ap (λ (v : SliceState). line_standing (line v action.line.0) action.agent before taken action.step) done
    ∙ (ap (λ (l : LineState). line_standing l action.agent before taken action.step) may_do.left
    ∙ stands (conditions_under each_credit s action) (last_of s action.line.0) (line s action.line.0) action.agent before taken action.step inside.agent (k.lines action.line.0 inside.line) may_do.may served is)

pub sent_is : (s new : SliceState) (action : Action) (before : Serving) (taken : ChiFlit) (old array : List ChiSent) (count : ℕ) → SliceKept s → action_refusal s action ≡ None → new ≡ slice_after s action
    → before ≡ (line s action.line.0).home.serving → taken ≡ (taken_told (flit_of action.agent (message_taken (cells_of (line s action.line.0) action.agent.0) action.step))).flit
    → IsListed (map sent_told (line_standing (line new action.line.0) action.agent before taken action.step)) old array count
    → IsListed (map sent_told (flits_sent s.config.profile (line s action.line.0) action.agent action.step)) old array count
sent_is s new action before taken old array count k may done served is listed =
    subst (λ (them : List Flit). IsListed (map sent_told them) old array count) (shown s new action before taken k may done served is) listed

-- the flit that is told is the one that the action takes
pub told_is : (s : SliceState) (action : Action) (taken : ChiSent) → taken ≡ told_or (flit_of action.agent (message_taken (cells_of (line s action.line.0) action.agent.0) action.step)) no_sent
    → taken ≡ taken_told (flit_of action.agent (message_taken (cells_of (line s action.line.0) action.agent.0) action.step))
told_is s action taken is = is ∙ told_over (flit_of action.agent (message_taken (cells_of (line s action.line.0) action.agent.0) action.step))

pub taken_is : (s : SliceState) (action : Action) (taken : ChiSent) → taken ≡ told_or (flit_of action.agent (message_taken (cells_of (line s action.line.0) action.agent.0) action.step)) no_sent
    → taken ≡ taken_told (flit_taken (line s action.line.0) action.agent action.step)
taken_is s action taken is = told_is s action taken is ∙ ap taken_told (takes (line s action.line.0) action.agent action.step)

-- an action whose agent or line isn't there is refused
pub unseen_refused : (s : SliceState) (action : Action) (refusal : Refusal) → Some refusal ≡ flits_refusal s action.agent.0 action.line.0 → Some refusal ≡ action_refusal s action
unseen_refused s action refusal h = go (nat_lt action.agent.0 s.config.agents) (is_line_in_range s action.line.0) h
  where
    go : (a b : Bool) → Some refusal ≡ (if a && b then None else Some OutOfRange)
        → Some refusal ≡ (if a && (b && is_step_in_range action.step) then line_refusal (conditions_under each_credit s action) (line s action.line.0) action else Some OutOfRange)
    go true true h = absurd (cc (h))
    go true false h = h
    go false b h = h
