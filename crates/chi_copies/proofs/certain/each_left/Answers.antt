-- One more is set.
use Rattle.std.proofs.Common.{rules, arith, ◌≡◌, ◌<◌, length, ap, ◌∙◌, slice_set}
use Rattle.chi_copies.specs.Sets.{members}
use Rattle.chi_copies.specs.Begun.{left_beside}
use Rattle.chi_copies.specs.BegunLines.{sets_of, sure_of}
use Rattle.chi_copies.proofs.BegunLines.{all_sets, more_sets, left_past}
use Rattle.chi_copies.proofs.certain.each_left.Goals as goal

pub loop-n-preserved : goal.loop-n-preserved
loop-n-preserved c =
    let n = c.loop-n.n in
    let left = c.loop-n.left in
    let x = c.left_beside.result in
    let some : n < 32 = search (rules, arith, c.loop-n-test) in
    let whole : length (slice_set left n x) ≡ 32 = search (rules, arith, c.loop-n.invariant.0) in (
      whole,
      more_sets left (λ m. left_beside (sure_of c.args.sure.now m) (members c.args.apart) (sets_of c.args.may.now m)) n x c.loop-n.invariant.0 some c.loop-n.invariant.1
          (λ h. c.left_beside.ensures h ∙ ap (λ s. left_beside (sure_of c.args.sure.now n) (members c.args.apart) (members s) h) c.copies_at.ensures),
    )

pub returns : goal.returns
returns c =
    let all : c.loop-n.n ≡ 32 = omega (arith, c.loop-n-test.false, c.loop-n.auto.n-end) in
    let sets : length c.args.may.now ≡ 32 = search (rules, arith) in
    all_sets c.loop-n.left (λ m. left_beside (sure_of c.args.sure.now m) (members c.args.apart) (sets_of c.args.may.now m)) c.loop-n.n all c.loop-n.invariant.0 c.loop-n.invariant.1 (left_past c.args.sure.now (members c.args.apart) c.args.may.now sets)
