-- One more is set.
use Rattle.std.proofs.Common.{rules, arith, ◌≡◌, ◌<◌, length, ap, ◌∙◌, slice_set}
use Rattle.std.specs.Prelude.{false, ◌&&◌, ◌||◌, not}
use Rattle.chi_copies.specs.Sets.{members}
use Rattle.chi_copies.specs.Begun.{is_one}
use Rattle.chi_copies.specs.BegunLines.{flags_of, sets_of, sure_of}
use Rattle.chi_copies.proofs.BegunLines.{all_flags, more_flags, sure_past}
use Rattle.chi_copies.proofs.begun_moments.sure_then.Goals as goal

pub loop-n-preserved : goal.loop-n-preserved
loop-n-preserved c =
    let n = c.loop-n.n in
    let settled = c.loop-n.settled in
    let x = c.is_sure_then.result in
    let some : n < 32 = search (rules, arith, c.loop-n-test) in
    let whole : length (slice_set settled n x) ≡ 32 = search (rules, arith, c.loop-n.invariant.0) in (
      whole,
      more_flags false settled (λ m. not (flags_of c.args.asked.now m) && (sure_of c.args.sure.now m || is_one (sets_of c.args.may.now m))) n x c.loop-n.invariant.0 some c.loop-n.invariant.1
          (c.is_sure_then.ensures ∙ ap (λ a. not a && (sure_of c.args.sure.now n || is_one (members c.copies_at.result))) c.flag_at.ensures
          ∙ ap (λ s. not (flags_of c.args.asked.now n) && (sure_of c.args.sure.now n || is_one (members s))) c.copies_at.ensures),
    )

pub returns : goal.returns
returns c =
    let all : c.loop-n.n ≡ 32 = omega (arith, c.loop-n-test.false, c.loop-n.auto.n-end) in
    let flags : length c.args.asked.now ≡ 32 = search (rules, arith) in
    all_flags false c.loop-n.settled (λ m. not (flags_of c.args.asked.now m) && (sure_of c.args.sure.now m || is_one (sets_of c.args.may.now m))) c.loop-n.n all c.loop-n.invariant.0 c.loop-n.invariant.1 (sure_past c.args.asked.now c.args.sure.now c.args.may.now flags)
