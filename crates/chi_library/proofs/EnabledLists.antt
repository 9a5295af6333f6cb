-- The actions that aren't refused, step by step.
use Rattle.std.proofs.Common.{◌≡◌, Option, None, sym, subst, ℕ, suc, ◌+◌, ◌<◌, ◌≤◌, List, [], ◌∷◌, Bool, true, false, cond, refl, ◌∙◌, ap, get_or, length, drop, map, add-one, arith}
use Rattle.std.proofs.Math.Seq.{drop-cons}
use Rattle.std.proofs.lemmas.List.{drop_all}
use Rattle.std.specs.Option.{is_none}
use Rattle.chi_flit.specs.declared.numbers.Agent.{Agent}
use Rattle.chi_flit.specs.declared.numbers.Line.{Line}
use Rattle.chi_flit.specs.declared.action.Step.{Step}
use Rattle.chi_flit.specs.declared.refusal.Refusal.{Refusal}
use Rattle.chi_slice.specs.Idle.{lowest_idle}
use Rattle.chi_slice.specs.Slice.{SliceState, action_refusal, flits_refusal}
use Rattle.chi_library.specs.declared.actions.ChiAction.{ChiAction}
use Rattle.chi_library.specs.Actions.{action_told}
use Rattle.chi_library.specs.Calls.{told_unless}
use Rattle.chi_library.specs.Enabled.{candidate_action, all_steps, enabled_of, enabled_told, is_unrefused}
use Rattle.chi_library.specs.Listed.{IsListed}

abbrev pub told_of : SliceState → Agent → Line → List Step → List ChiAction
told_of s agent l steps = map action_told (enabled_of s agent l steps)

-- the first of some steps
first : (s : SliceState) (agent : Agent) (l : Line) (step : Step) (steps : List Step) (b : Bool) → is_unrefused s (candidate_action agent l step) ≡ b
    → told_of s agent l (step ∷ steps) ≡ cond b (action_told (candidate_action agent l step) ∷ told_of s agent l steps) (told_of s agent l steps)
first s agent l step steps true is = rw is refl
first s agent l step steps false is = rw is refl

pub next_enabled : (s : SliceState) (agent : Agent) (l : Line) (steps : List Step) (i : ℕ) (d : Step) (refusal : Option Refusal) → i < length steps → refusal ≡ action_refusal s (candidate_action agent l (get_or steps i d)) → is_none refusal ≡ true
    → told_of s agent l (drop i steps) ≡ action_told (candidate_action agent l (get_or steps i d)) ∷ told_of s agent l (drop (i + 1) steps)
next_enabled s agent l steps i d refusal low by is =
    rw add-one (ap (told_of s agent l) (drop-cons steps i d low) ∙ first s agent l (get_or steps i d) (drop (suc i) steps) true (ap is_none (sym by) ∙ is))

pub next_refused : (s : SliceState) (agent : Agent) (l : Line) (steps : List Step) (i : ℕ) (d : Step) (refusal : Option Refusal) → i < length steps → refusal ≡ action_refusal s (candidate_action agent l (get_or steps i d)) → is_none refusal ≡ false
    → told_of s agent l (drop i steps) ≡ told_of s agent l (drop (i + 1) steps)
next_refused s agent l steps i d refusal low by is =
    rw add-one (ap (told_of s agent l) (drop-cons steps i d low) ∙ first s agent l (get_or steps i d) (drop (suc i) steps) false (ap is_none (sym by) ∙ is))

pub none_left : (s : SliceState) (agent : Agent) (l : Line) (steps : List Step) (i : ℕ) → length steps ≤ i → told_of s agent l (drop i steps) ≡ []
none_left s agent l steps i all = ap (told_of s agent l) (drop_all i steps all)

-- no more than the steps
pub few_enabled : (s : SliceState) (agent : Agent) (l : Line) (steps : List Step) → length (told_of s agent l steps) ≤ length steps
few_enabled s agent l [] = omega arith
few_enabled s agent l (step ∷ steps) = go (is_unrefused s (candidate_action agent l step)) refl (few_enabled s agent l steps)
  where
    go : (b : Bool) → is_unrefused s (candidate_action agent l step) ≡ b → length (told_of s agent l steps) ≤ length steps → length (told_of s agent l (step ∷ steps)) ≤ suc (length steps)
    go true is few = let more = ap length (first s agent l step steps true is) in omega (arith, more, few)
    go false is few = let same = ap length (first s agent l step steps false is) in omega (arith, same, few)

-- where the agent and the line are there, those of all steps are shown
pub shown : (s : SliceState) (agent : Agent) (l : Line) (steps : List Step) (old array : List ChiAction) (count : ℕ) → None ≡ flits_refusal s agent.0 l.0 → steps ≡ all_steps (lowest_idle s agent.0)
    → IsListed (told_of s agent l steps) old array count → IsListed (enabled_told agent.0 l.0 s) old array count
shown s agent l steps old array count there is listed =
    subst (λ (refusal : Option Refusal). IsListed (told_unless refusal [] (told_of s agent l (all_steps (lowest_idle s agent.0)))) old array count) there
    (subst (λ (them : List Step). IsListed (told_of s agent l them) old array count) is listed)
