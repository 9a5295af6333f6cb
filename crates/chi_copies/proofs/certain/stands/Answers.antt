-- All are tested.
use Rattle.std.proofs.Common.{arith, ◌≡◌, ℕ, subst, ap, ◌∙◌}
use Rattle.std.specs.Prelude.{◌||◌, ◌==◌, not}
use Rattle.chi_copies.specs.Worlds.{all_below}
use Rattle.chi_copies.specs.Sets.{members}
use Rattle.chi_copies.specs.Begun.{counts}
use Rattle.chi_copies.specs.BegunLines.{sets_of, sure_of}
use Rattle.chi_copies.proofs.Sets.{next_all}
use Rattle.chi_copies.proofs.certain.stands.Goals as goal

pub returns : goal.returns
returns c =
    let all : c.loop-n.n ≡ 32 = omega (arith, c.loop-n-test.false, c.loop-n.auto.n-end) in
    subst (λ (k : ℕ). c.loop-n.beside ≡ all_below k (λ m. m == c.args.agent || not (counts (sure_of c.args.sure.now m) (sets_of c.args.may.now m) (members c.args.apart)))) all c.loop-n.invariant

pub loop-n-preserved : goal.loop-n-preserved
loop-n-preserved c = next_all c.loop-n.n (λ m. m == c.args.agent || not (counts (sure_of c.args.sure.now m) (sets_of c.args.may.now m) (members c.args.apart))) c.loop-n.beside c.is_beside-beside.result c.loop-n.invariant
    (c.is_beside-beside.ensures ∙ ap (λ x. c.loop-n.n == c.args.agent || not (counts (sure_of c.args.sure.now c.loop-n.n) (members x) (members c.args.apart))) c.copies_at.ensures)
