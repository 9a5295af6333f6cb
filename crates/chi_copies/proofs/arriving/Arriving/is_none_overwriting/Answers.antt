-- All are tested.
use Rattle.std.proofs.Common.{arith, ◌≡◌, ℕ, ap, ◌∙◌}
use Rattle.std.specs.Prelude.{◌||◌, ◌==◌, not}
use Rattle.chi_observer.specs.Rules.{overwrites}
use Rattle.chi_copies.specs.Worlds.{all_below}
use Rattle.chi_copies.specs.ArrivingLines.{received}
use Rattle.chi_copies.proofs.Sets.{next_all}
use Rattle.chi_copies.proofs.arriving.Arriving.is_none_overwriting.Goals as goal

pub returns : goal.returns
returns c =
    let all : c.loop-n.n ≡ 32 = omega (arith, c.loop-n-test.false, c.loop-n.auto.n-end) in
    c.loop-n.invariant ∙ ap (λ (k : ℕ). all_below k (λ m. m == c.args.agent || not (overwrites ((received c.args.self.now).due m)))) all

pub loop-n-preserved : goal.loop-n-preserved
loop-n-preserved c = next_all c.loop-n.n (λ m. m == c.args.agent || not (overwrites ((received c.args.self.now).due m))) c.loop-n.none c.is_own_or-none.result c.loop-n.invariant (c.is_own_or-none.ensures ∙ ap (λ b. c.loop-n.n == c.args.agent || b) c.is_sparing.ensures)
