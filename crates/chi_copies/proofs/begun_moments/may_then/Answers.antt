-- One more is set.
use Rattle.std.proofs.Common.{rules, arith, ◌≡◌, ◌<◌, length, ap, ◌∙◌, slice_set}
use Rattle.std.specs.Prelude.{if◌then◌else◌}
use Rattle.chi_copies.specs.Copies.{image}
use Rattle.chi_copies.specs.Dues.{due_is}
use Rattle.chi_copies.specs.Rules.{slips}
use Rattle.chi_copies.specs.Sets.{members}
use Rattle.chi_copies.specs.BegunLines.{dues_of, sets_of, sure_of}
use Rattle.chi_copies.proofs.BegunLines.{all_sets, more_sets, then_past}
use Rattle.chi_copies.proofs.begun_moments.may_then.Goals as goal

pub loop-n-preserved : goal.loop-n-preserved
loop-n-preserved c =
    let n = c.loop-n.n in
    let settled = c.loop-n.settled in
    let x = c.copies_then.result in
    let some : n < 32 = search (rules, arith, c.loop-n-test) in
    let whole : length (slice_set settled n x) ≡ 32 = search (rules, arith, c.loop-n.invariant.0) in (
      whole,
      more_sets settled (λ m. (if sure_of c.args.sure.now m then image (slips c.args.stores (dues_of c.args.due.now m)) (sets_of c.args.may.now m) else sets_of c.args.may.now m)) n x c.loop-n.invariant.0 some c.loop-n.invariant.1
          (λ h. c.copies_then.ensures h ∙ ap (λ d. (if sure_of c.args.sure.now n then image (slips c.args.stores (due_is d)) (members c.copies_at.result) else members c.copies_at.result) h) c.code_at.ensures
          ∙ ap (λ s. (if sure_of c.args.sure.now n then image (slips c.args.stores (dues_of c.args.due.now n)) (members s) else members s) h) c.copies_at.ensures),
    )

pub returns : goal.returns
returns c =
    let all : c.loop-n.n ≡ 32 = omega (arith, c.loop-n-test.false, c.loop-n.auto.n-end) in
    let sures : length c.args.sure.now ≡ 32 = search (rules, arith) in
    let sets : length c.args.may.now ≡ 32 = search (rules, arith) in
    all_sets c.loop-n.settled (λ m. (if sure_of c.args.sure.now m then image (slips c.args.stores (dues_of c.args.due.now m)) (sets_of c.args.may.now m) else sets_of c.args.may.now m)) c.loop-n.n all c.loop-n.invariant.0 c.loop-n.invariant.1 (then_past c.args.stores c.args.due.now c.args.sure.now c.args.may.now sures sets)
