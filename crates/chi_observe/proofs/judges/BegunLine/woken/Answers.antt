-- All of them are told.
use Rattle.std.proofs.Common.{arith, ◌≡◌, ℕ, subst}
use Rattle.chi_observer.specs.Begun.{begun}
use Rattle.chi_observe.specs.Judges.{before_of, woken, woken_below}
use Rattle.chi_observe.proofs.judges.BegunLine.woken.Goals as goal

pub returns : goal.returns
unfolding woken
returns c =
    let all : c.loop-n.n ≡ 32 = omega (arith, c.loop-n-test.false, c.loop-n.auto.n-end) in
    subst (λ (k : ℕ). begun c.loop-n.next ≡ woken_below k (before_of c.args.before.now) c.args.self.now.synced (begun c.args.self.now.begun)) all c.loop-n.invariant
