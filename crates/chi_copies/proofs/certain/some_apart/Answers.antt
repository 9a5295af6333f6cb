-- One agent more.
use Rattle.std.proofs.Common.{arith, ◌≡◌, ℕ, subst, ap, ◌∙◌}
use Rattle.std.specs.Prelude.{◌||◌, ◌==◌, not}
use Rattle.chi_copies.specs.Worlds.{all_below}
use Rattle.chi_copies.specs.Sets.{members}
use Rattle.chi_copies.specs.Begun.{apart_from}
use Rattle.chi_copies.specs.BegunLines.{sets_of, sure_of}
use Rattle.chi_copies.proofs.Counted.{next_some}
use Rattle.chi_copies.proofs.certain.some_apart.Goals as goal

pub loop-n-init : goal.loop-n-init
loop-n-init c = c.empty-apart.ensures

pub loop-n-preserved : goal.loop-n-preserved
loop-n-preserved c = λ h. c.or-apart.ensures h ∙ next_some c.loop-n.n (λ m. m == c.args.agent || not (apart_from (sure_of c.args.sure.now m) (sets_of c.args.may.now m) h)) (members c.loop-n.apart h) (members c.apart_of.result h) (c.loop-n.invariant h)
    (c.apart_of.ensures h ∙ ap (λ x. not (c.loop-n.n == c.args.agent || not (apart_from (sure_of c.args.sure.now c.loop-n.n) (members x) h))) c.copies_at.ensures)

pub returns : goal.returns
returns c =
    let all : c.loop-n.n ≡ 32 = omega (arith, c.loop-n-test.false, c.loop-n.auto.n-end) in
    λ h. subst (λ (k : ℕ). members c.loop-n.apart h ≡ not (all_below k (λ m. m == c.args.agent || not (apart_from (sure_of c.args.sure.now m) (sets_of c.args.may.now m) h)))) all (c.loop-n.invariant h)
