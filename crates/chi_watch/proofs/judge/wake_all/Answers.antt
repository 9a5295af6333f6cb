-- All of them are told.
use Rattle.std.proofs.Common.{arith, ◌≡◌, ℕ, subst}
use Rattle.chi_copies.specs.BegunLines.{begun}
use Rattle.chi_watch.specs.Judges.{woken, woken_below}
use Rattle.chi_watch.proofs.judge.wake_all.Goals as goal

pub returns : goal.returns
unfolding woken
returns c =
    let all : c.loop-n.n ≡ 32 = omega (arith, c.loop-n-test.false, c.loop-n.auto.n-end) in
    subst (λ (k : ℕ). begun c.loop-n.line ≡ woken_below k c.args.strays.now c.args.last (begun c.args.line.now)) all c.loop-n.invariant
