-- A run of actions, one after the other.
use Rattle.std.proofs.Math.Seq.{drop-cons}
use Rattle.std.proofs.lemmas.List.{drop_all}
use Rattle.std.specs.Result.{is_ok}
use Rattle.std.proofs.Common.{add-one, ◌≡◌, ℕ, suc, ◌+◌, ◌<◌, ◌≤◌, List, [], ◌∷◌, true, false, Option, Some, None, Result, Ok, Err, IfOk, OnOk, OnErr, refl, sym, ◌∙◌, ap, subst, get_or, length, drop, arith}
use Rattle.chi_flit.specs.declared.action.Action.{Action}
use Rattle.chi_flit.specs.declared.action.Effect.{Effect}
use Rattle.chi_flit.specs.declared.refusal.Refusal.{Refusal}
use Rattle.chi_flit.specs.Refusal.{refusal_of}
use Rattle.chi_slice.specs.Protocol.{refused}
use Rattle.chi_slice.specs.Slice.{SliceState, slice_after, action_refusal, run_after, slice_after_try, tried_as}
use Rattle.chi_slice.specs.Run.{IsDone, IsRun, IsTried, done_if}
use Rattle.chi_slice.proofs.Refused.{refused_is}

-- after the first i actions the slice is s, and done of them were done
pub record RunsOn (old : SliceState) (actions : List Action) (s : SliceState) (done i : ℕ) : Type 0 where
  pub after : run_after s (drop i actions) ≡ run_after old actions
  pub few : done ≤ i
  pub leads : (new : SliceState) (rest : ℕ) → IsRun s (drop i actions) rest new → IsRun old actions (done + rest) new

pub runs_start : (s : SliceState) (actions : List Action) → RunsOn s actions s 0 0
runs_start s actions = record { after = refl; few = omega arith; leads = λ new rest run. let same : rest ≡ 0 + rest = omega arith in subst (λ (n : ℕ). IsRun s actions n new) same run }

-- what a call of act says of an action that was tried
pub record Tried (s s' : SliceState) (action : Action) (result : Result Effect Refusal) : Type 0 where
  pub refusal : refusal_of result ≡ action_refusal s action
  pub done : IfOk result (λ effect. IsDone s action effect s')
  pub after : OnOk result (s' ≡ slice_after s action)
  pub err : OnErr result (s' ≡ s)

-- so it is a step of a run
step_of_run : (s s' : SliceState) (action : Action) (result : Result Effect Refusal) → Tried s s' action result → IsTried (refused s action) s action s'
step_of_run s s' action (Ok effect) by = subst (λ (r : Option Refusal). IsTried r s action s') (by.refusal ∙ refused_is s action) (effect, by.done)
step_of_run s s' action (Err refusal) by = subst (λ (r : Option Refusal). IsTried r s action s') (by.refusal ∙ refused_is s action) by.err

-- the slice after an action was tried, and whether it was done
tried_is : (s s' : SliceState) (action : Action) (result : Result Effect Refusal) → refusal_of result ≡ action_refusal s action → OnOk result (s' ≡ slice_after s action) → OnErr result (s' ≡ s) → s' ≡ slice_after_try s action
tried_is s s' action (Ok effect) by after stays = subst (λ (r : Option Refusal). s' ≡ tried_as r s action) by after
tried_is s s' action (Err refusal) by after stays = subst (λ (r : Option Refusal). s' ≡ tried_as r s action) by stays

counted : (s : SliceState) (action : Action) (result : Result Effect Refusal) (done done' : ℕ) → refusal_of result ≡ action_refusal s action
    → (is_ok result ≡ true → done' ≡ done + 1) → (is_ok result ≡ false → done' ≡ done) → done' ≡ done + done_if (refused s action)
counted s action (Ok effect) done done' by more same = subst (λ (r : Option Refusal). done' ≡ done + done_if r) (by ∙ refused_is s action) (more refl)
counted s action (Err refusal) done done' by more same = subst (λ (r : Option Refusal). done' ≡ done + done_if r) (by ∙ refused_is s action) (same refl ∙ omega arith)

done_once : (refusal : Option Refusal) → done_if refusal ≤ 1
done_once None = omega arith
done_once (Some refusal) = omega arith

-- one more action is tried
pub runs_next : (old s s' : SliceState) (actions : List Action) (done done' i : ℕ) (d : Action) (result : Result Effect Refusal) → i < length actions → RunsOn old actions s done i
    → Tried s s' (get_or actions i d) result
    → (is_ok result ≡ true → done' ≡ done + 1) → (is_ok result ≡ false → done' ≡ done) → RunsOn old actions s' done' (i + 1)
runs_next old s s' actions done done' i d result low on by more same =
    let action : Action = get_or actions i d in
    let rest : List Action = drop (suc i) actions in
    let left : drop i actions ≡ action ∷ rest = drop-cons actions i d low in
    let state : s' ≡ slice_after_try s action = tried_is s s' action result by.refusal by.after by.err in
    let number : done' ≡ done + done_if (refused s action) = counted s action result done done' by.refusal more same in
    let ran : run_after s (drop i actions) ≡ run_after (slice_after_try s action) rest = ap (run_after s) left in
    let most : done_if (refused s action) ≤ 1 = done_once (refused s action) in
    record {
      after = rw add-one (ap (λ (v : SliceState). run_after v rest) state ∙ (sym ran ∙ on.after));
      few = omega (arith, number, most, on.few);
      leads = rw add-one (λ new more run.
          let all : ℕ = done_if (refused s action) + more in
          let sum : done + all ≡ done' + more = omega (arith, number) in
          subst (λ (n : ℕ). IsRun old actions n new) sum (on.leads new all (subst (λ (rows : List Action). IsRun s rows all new) (sym left) (s', more, step_of_run s s' action result by, run, refl))));
    }

-- at the end nothing is left
pub runs_end : (old s : SliceState) (actions : List Action) (done i : ℕ) → length actions ≤ i → RunsOn old actions s done i → (s ≡ run_after old actions) × IsRun old actions done s
runs_end old s actions done i high on =
    let none : drop i actions ≡ [] = drop_all i actions high in
    let ran : run_after s (drop i actions) ≡ s = ap (run_after s) none in
    let sum : done + 0 ≡ done = omega arith in
    (sym ran ∙ on.after, subst (λ (n : ℕ). IsRun old actions n s) sum (on.leads s 0 (subst (λ (rows : List Action). IsRun s rows 0 s) (sym none) (refl, refl))))

pub tried_keeps : (refusal : Option Refusal) (old : SliceState) (action : Action) (new : SliceState) → IsTried refusal old action new → (new.config ≡ old.config) × (new.index ≡ old.index)
tried_keeps None old action new done = (done.1.config, done.1.index)
tried_keeps (Some refusal) old action new same = (ap (λ (v : SliceState). v.config) same, ap (λ (v : SliceState). v.index) same)

-- a run leaves the sizes and the index
pub run_keeps : (old : SliceState) (actions : List Action) (count : ℕ) (new : SliceState) → IsRun old actions count new → (new.config ≡ old.config) × (new.index ≡ old.index)
run_keeps old [] count new run = (ap (λ (v : SliceState). v.config) run.1, ap (λ (v : SliceState). v.index) run.1)
run_keeps old (action ∷ actions) count new run =
    let here : (run.0.config ≡ old.config) × (run.0.index ≡ old.index) = tried_keeps (refused old action) old action run.0 run.2 in
    let rest : (new.config ≡ run.0.config) × (new.index ≡ run.0.index) = run_keeps run.0 actions run.1 new run.3 in
    (rest.0 ∙ here.0, rest.1 ∙ here.1)
