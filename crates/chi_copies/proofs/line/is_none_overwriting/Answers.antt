-- All are tested.
use Rattle.std.proofs.Common.{arith, ◌≡◌, ℕ, subst}
use Rattle.std.specs.Prelude.{◌||◌, ◌==◌, not}
use Rattle.chi_observer.specs.Rules.{overwrites}
use Rattle.chi_copies.specs.Worlds.{all_below}
use Rattle.chi_copies.specs.Lines.{due_at}
use Rattle.chi_copies.proofs.Sets.{next_all}
use Rattle.chi_copies.proofs.line.is_none_overwriting.Goals as goal

pub returns : goal.returns
returns c =
    let all : c.loop-n.n ≡ 32 = omega (arith, c.loop-n-test.false, c.loop-n.auto.n-end) in
    subst (λ (k : ℕ). c.loop-n.none ≡ all_below k (λ m. m == c.args.agent || not (overwrites (due_at c.args.due.now m)))) all c.loop-n.invariant

pub loop-n-preserved : goal.loop-n-preserved
loop-n-preserved c = next_all c.loop-n.n (λ m. m == c.args.agent || not (overwrites (due_at c.args.due.now m))) c.loop-n.none c.is_sparing-none.result c.loop-n.invariant c.is_sparing-none.ensures
