-- After a call a legal history leaves the requester's port as it is.
use Rattle.std.proofs.Common.{◌≡◌, ℕ, Bool, true, false, Option, Some, None, ap, sym, subst}
use Rattle.std.specs.Prelude.{IfNone}
use Rattle.chi_flit.specs.declared.action.Step.{Step}
use Rattle.chi_flit.specs.declared.action.Effect.{Effect}
use Rattle.chi_flit.specs.declared.action.Effect.TheVariants.{Nothing, Value, Completed}
use Rattle.chi_tracker.specs.declared.released.Released.{Released}
use Rattle.chi_flit.specs.declared.numbers.Entry.{Entry}
use Rattle.chi_tracker.specs.Calls.{Owner, owed_one}
use Rattle.chi_tracker.specs.Conduct.{ClaimActs, HasActed, OweActs}
use Rattle.chi_node.specs.declared.answers.Arrived.{Arrived}
use Rattle.chi_node.specs.declared.answers.Arrived.TheVariants.{Admitted, Retried}
use Rattle.chi_node.specs.AfterStep.{Finishes, StepPlace}
use Rattle.chi_node.specs.Arrives.{Arrives, Retries}
use Rattle.chi_node.specs.Calls.{IsSameRequester}
use Rattle.chi_node.specs.Requester.{IsRunning, RequesterState}

pub arrival_running : (allow_retry : Bool) (s : ℕ) (arrived : Arrived) (r r' : RequesterState) → Arrives allow_retry s arrived r r' → IsRunning r'
arrival_running true s (Admitted e) r r' a = a.4.running
arrival_running true s (Retried ty) r r' a = a.4.acts.running
arrival_running false s (Admitted e) r r' a = a.4.running
arrival_running false s (Retried ty) r r' a = absurd a

pub step_running : (at : StepPlace) (step : Step) (effect : Effect) (released : Option Released) (r r' : RequesterState) → Finishes at step effect released r r' → IsRunning r → IsRunning r'
step_running at step (Completed slot) None r r' f running = absurd f.0
step_running at step (Completed slot) (Some released) r r' f running = f.1.acted.3.running
step_running at step Nothing released r r' f running = subst IsRunning (sym f.1) running
step_running at step (Value word) released r r' f running = subst IsRunning (sym f.1) running

-- the requester stays that of its number and of its tracker
pub arrival_same : (allow_retry : Bool) (s : ℕ) (arrived : Arrived) (r r' : RequesterState) → Arrives allow_retry s arrived r r' → IsSameRequester r r'
arrival_same true s (Admitted e) r r' a = record { number = ap (λ (q : RequesterState). q.number) a.3; table = ap (λ (q : RequesterState). q.table) a.3; shape = a.2.1 }
arrival_same true s (Retried ty) r r' a = record { number = ap (λ (q : RequesterState). q.number) a.3; table = ap (λ (q : RequesterState). q.table) a.3; shape = a.2.1 }
arrival_same false s (Admitted e) r r' a = record { number = ap (λ (q : RequesterState). q.number) a.3; table = ap (λ (q : RequesterState). q.table) a.3; shape = ap (λ (q : RequesterState). q.port.shape) a.3 }
arrival_same false s (Retried ty) r r' a = absurd a

pub step_same : (at : StepPlace) (step : Step) (effect : Effect) (released : Option Released) (r r' : RequesterState) → Finishes at step effect released r r' → IsSameRequester r r'
step_same at step (Completed slot) None r r' f = absurd f.0
step_same at step (Completed slot) (Some released) r r' f = record { number = ap (λ (q : RequesterState). q.number) f.1.after; table = ap (λ (q : RequesterState). q.table) f.1.after; shape = f.1.credits.1 }
step_same at step Nothing released r r' f = record { number = ap (λ (q : RequesterState). q.number) f.1; table = ap (λ (q : RequesterState). q.table) f.1; shape = ap (λ (q : RequesterState). q.port.shape) f.1 }
step_same at step (Value word) released r r' f = record { number = ap (λ (q : RequesterState). q.number) f.1; table = ap (λ (q : RequesterState). q.table) f.1; shape = ap (λ (q : RequesterState). q.port.shape) f.1 }

-- what is said where there is no answer
pub if_none : {A : Type 0} (P : Type 0) (o : Option A) → o ≡ None → P → IfNone o P
if_none {A} P o is p = subst (λ (z : Option A). IfNone z P) (sym is) p

-- a claim of an entry of the slot's type
pub admitted : (p q : Owner) (t k : ℕ) (e : Entry) → k ≡ t → HasActed (ClaimActs p.port k (Some e)) p q → HasActed (ClaimActs p.port t (Some e)) p q
admitted p q t k e is claimed = subst (λ (j : ℕ). HasActed (ClaimActs p.port j (Some e)) p q) is claimed

-- a claim that found all taken, and then one more credit that is owed
pub retried : (p m q : Owner) (t k : ℕ) → k ≡ t → HasActed (ClaimActs p.port k None) p m → q.port ≡ owed_one k m.port → HasActed (OweActs k) m q → Retries t p q
retried p m q t k same claimed owed acts = subst (λ (j : ℕ). Retries j p q) same (record { mid = m; claimed = claimed; owed = owed; acts = acts })
