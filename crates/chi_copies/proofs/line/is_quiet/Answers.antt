-- All are tested.
use Rattle.std.proofs.Common.{arith, ◌≡◌, ℕ, subst}
use Rattle.std.specs.Prelude.{not}
use Rattle.chi_observer.specs.Rules.{is_busy}
use Rattle.chi_copies.specs.Worlds.{all_below}
use Rattle.chi_copies.specs.Lines.{due_at}
use Rattle.chi_copies.proofs.line.is_quiet.Goals as goal

pub returns : goal.returns
returns c =
    let all : c.loop-n.n ≡ 32 = omega (arith, c.loop-n-test.false, c.loop-n.auto.n-end) in
    subst (λ (k : ℕ). c.loop-n.quiet ≡ all_below k (λ m. not (is_busy (due_at c.args.due.now m)))) all c.loop-n.invariant
