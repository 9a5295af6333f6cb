-- All are tested.
use Rattle.std.proofs.Common.{arith, ◌≡◌, ℕ, subst, ap, ◌∙◌}
use Rattle.std.specs.Prelude.{◌||◌, ◌==◌}
use Rattle.chi_copies.specs.Worlds.{all_below}
use Rattle.chi_copies.specs.Observed.{is_beside}
use Rattle.chi_copies.specs.Sets.{members}
use Rattle.chi_copies.specs.Lines.{may_at}
use Rattle.chi_copies.proofs.Bits.{goes_beside}
use Rattle.chi_copies.proofs.Sets.{next_all}
use Rattle.chi_copies.proofs.line.stands_beside.Goals as goal

pub returns : goal.returns
returns c =
    let all : c.loop-n.n ≡ 32 = omega (arith, c.loop-n-test.false, c.loop-n.auto.n-end) in
    subst (λ (k : ℕ). c.loop-n.beside ≡ all_below k (λ m. m == c.args.agent || is_beside (members c.args.got) c.args.alone (members (may_at c.args.may.now m)))) all c.loop-n.invariant

pub loop-n-preserved : goal.loop-n-preserved
loop-n-preserved c = next_all c.loop-n.n (λ m. m == c.args.agent || is_beside (members c.args.got) c.args.alone (members (may_at c.args.may.now m))) c.loop-n.beside c.goes_beside-beside.result c.loop-n.invariant
    (c.goes_beside-beside.ensures ∙ goes_beside c.loop-n.n c.args.agent (members c.args.got) (members c.may_at-other.result) c.args.alone (members c.apart_by-apart.result) c.apart_by-apart.ensures
    ∙ ap (λ x. c.loop-n.n == c.args.agent || is_beside (members c.args.got) c.args.alone (members x)) c.may_at-other.ensures)
