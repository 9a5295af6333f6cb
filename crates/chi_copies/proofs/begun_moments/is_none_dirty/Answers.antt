-- All are tested.
use Rattle.std.proofs.Common.{arith, ◌≡◌, ℕ, subst, ap, ◌∙◌}
use Rattle.chi_copies.specs.Worlds.{all_below}
use Rattle.chi_copies.specs.Sets.{members}
use Rattle.chi_copies.specs.BegunLines.{clean_in, sets_of, sure_of}
use Rattle.chi_copies.proofs.Sets.{next_all}
use Rattle.chi_copies.proofs.begun_moments.is_none_dirty.Goals as goal

pub returns : goal.returns
returns c =
    let all : c.loop-n.n ≡ 32 = omega (arith, c.loop-n-test.false, c.loop-n.auto.n-end) in
    subst (λ (k : ℕ). c.loop-n.clean ≡ all_below k (λ m. clean_in (sure_of c.args.sure.now m) (sets_of c.args.may.now m) m c.args.agent)) all c.loop-n.invariant

pub loop-n-preserved : goal.loop-n-preserved
loop-n-preserved c = next_all c.loop-n.n (λ m. clean_in (sure_of c.args.sure.now m) (sets_of c.args.may.now m) m c.args.agent) c.loop-n.clean c.is_clean_beside-clean.result c.loop-n.invariant
    (c.is_clean_beside-clean.ensures ∙ ap (λ x. clean_in (sure_of c.args.sure.now c.loop-n.n) (members x) c.loop-n.n c.args.agent) c.copies_at-copies.ensures)
