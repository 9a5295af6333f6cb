-- All are tested.
use Rattle.std.proofs.Common.{arith, ◌≡◌, ℕ, subst, ap, ◌∙◌}
use Rattle.std.specs.Prelude.{not}
use Rattle.chi_copies.specs.declared.tests.Test.TheVariants.{Lost}
use Rattle.chi_copies.specs.Worlds.{all_below}
use Rattle.chi_copies.specs.Observed.{any_of}
use Rattle.chi_copies.specs.Sets.{members}
use Rattle.chi_copies.specs.Lines.{may_at, passes}
use Rattle.chi_copies.proofs.Sets.{next_all}
use Rattle.chi_copies.proofs.timed.is_none_lost.Goals as goal

pub returns : goal.returns
returns c =
    let all : c.loop-n.n ≡ 32 = omega (arith, c.loop-n-test.false, c.loop-n.auto.n-end) in
    subst (λ (k : ℕ). c.loop-n.none ≡ all_below k (λ m. not (any_of (members (may_at c.args.may.now m)) (passes Lost)))) all c.loop-n.invariant

pub loop-n-preserved : goal.loop-n-preserved
loop-n-preserved c = next_all c.loop-n.n (λ m. not (any_of (members (may_at c.args.may.now m)) (passes Lost))) c.loop-n.none (not c.any-lost.result) c.loop-n.invariant
    (ap not (c.any-lost.ensures ∙ ap (λ x. any_of (members x) (passes Lost)) c.may_at-copies.ensures))
