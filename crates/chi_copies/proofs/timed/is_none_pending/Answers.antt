-- All are tested.
use Rattle.std.proofs.Common.{rules, arith, ◌≡◌, ◌<◌, ℕ, length, subst, ap}
use Rattle.std.specs.Prelude.{◌&&◌, ◌||◌, false, not}
use Rattle.chi_observer.specs.Rules.{awaits_moment}
use Rattle.chi_copies.specs.Dues.{due_is}
use Rattle.chi_copies.specs.Worlds.{all_below}
use Rattle.chi_copies.specs.Lines.{due_at, issues, nothing_due, shown_at}
use Rattle.chi_copies.proofs.Alone.{pending_one}
use Rattle.chi_copies.proofs.Lines.{same_or}
use Rattle.chi_copies.proofs.Sets.{next_all}
use Rattle.chi_copies.proofs.timed.is_none_pending.Goals as goal

pub loop-n-preserved : goal.loop-n-preserved
loop-n-preserved c =
    let n = c.loop-n.n in
    let dues : n < length c.args.due.now = search (rules, arith, c.loop-n-test) in
    let shows : n < length c.args.shown.now = search (rules, arith, c.loop-n-test) in
    let d = ap due_is (same_or c.args.due.now n _ nothing_due dues) in
    let was = same_or c.args.shown.now n _ false shows in
    next_all n (λ m. not (awaits_moment (due_at c.args.due.now m) && (issues c.args.issuer m || not (shown_at c.args.shown.now m)))) c.loop-n.none (not c.is_pending-pending.result) c.loop-n.invariant
    (pending_one _ (due_at c.args.due.now n) c.is_issuer-issues.result (issues c.args.issuer n) _ (shown_at c.args.shown.now n) c.is_pending-pending.result d c.is_issuer-issues.ensures was c.is_pending-pending.ensures)

pub returns : goal.returns
returns c =
    let all : c.loop-n.n ≡ 32 = omega (arith, c.loop-n-test.false, c.loop-n.auto.n-end) in
    subst (λ (k : ℕ). c.loop-n.none ≡ all_below k (λ m. not (awaits_moment (due_at c.args.due.now m) && (issues c.args.issuer m || not (shown_at c.args.shown.now m))))) all c.loop-n.invariant
