-- All are tested.
use Rattle.std.proofs.Common.{rules, arith, ◌≡◌, ◌<◌, ℕ, subst, ap, ◌∙◌}
use Rattle.chi_copies.specs.declared.tests.Test.TheVariants.{Dirty}
use Rattle.chi_copies.specs.Observed.{any_of}
use Rattle.chi_copies.specs.Sets.{members}
use Rattle.chi_copies.specs.Lines.{may_at, passes}
use Rattle.chi_copies.proofs.Alone.{OneOf, first, one_more}
use Rattle.chi_copies.proofs.timed.dirty_one.Goals as goal

pub loop-n-init : goal.loop-n-init
loop-n-init c = first (λ m. any_of (members (may_at c.args.may.now m)) (passes Dirty))

pub loop-n-preserved : goal.loop-n-preserved
loop-n-preserved c =
    let small : c.loop-n.n < 32 = search (rules, arith, c.loop-n-test) in
    one_more (λ m. any_of (members (may_at c.args.may.now m)) (passes Dirty)) c.loop-n.n c.loop-n.who small c.loop-n.invariant c.any-dirty.result c.dirty_then-who.result
    (c.any-dirty.ensures ∙ ap (λ s. any_of (members s) (passes Dirty)) (c.may_at-copies.ensures ∙ ap (may_at c.args.may.now) c.from.ensures)) c.dirty_then-who.ensures

pub returns : goal.returns
returns c =
    let all : c.loop-n.n ≡ 32 = omega (arith, c.loop-n-test.false, c.loop-n.auto.n-end) in
    λ n low. (subst (λ (k : ℕ). OneOf (λ m. any_of (members (may_at c.args.may.now m)) (passes Dirty)) k c.loop-n.who) all c.loop-n.invariant).each n low
