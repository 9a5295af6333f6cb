-- One more is set.
use Rattle.std.proofs.Common.{rules, arith, ◌≡◌, ◌<◌, length, ap, sym, ◌∙◌, slice_set}
use Rattle.std.specs.Prelude.{true}
use Rattle.chi_copies.specs.Dues.{due_is}
use Rattle.chi_copies.specs.BegunLines.{dues_of, flags_of, sets_of, shown_in, sure_of}
use Rattle.chi_copies.proofs.BegunLines.{all_flags, more_flags, none_awaits, shown_past}
use Rattle.chi_copies.proofs.begun_moments.shown_then.Goals as goal

pub loop-n-preserved : goal.loop-n-preserved
loop-n-preserved c =
    let n = c.loop-n.n in
    let settled = c.loop-n.settled in
    let x = c.is_shown.result in
    let some : n < 32 = search (rules, arith, c.loop-n-test) in
    let whole : length (slice_set settled n x) ≡ 32 = search (rules, arith, c.loop-n.invariant.0) in (
      whole,
      more_flags true settled (λ m. shown_in (flags_of c.args.asked.now m) (dues_of c.args.due.now m) (flags_of c.args.shown.now m) c.args.issuer (sure_of c.args.sure.now) (sets_of c.args.may.now) m) n x c.loop-n.invariant.0 some c.loop-n.invariant.1
          (c.is_shown.ensures
          ∙ ap (λ a. shown_in a (due_is c.code_at.result) c.flag_at-in-loop-n.result c.args.issuer (sure_of c.args.sure.now) (sets_of c.args.may.now) n) c.flag_at.ensures
          ∙ ap (λ d. shown_in (flags_of c.args.asked.now n) (due_is d) c.flag_at-in-loop-n.result c.args.issuer (sure_of c.args.sure.now) (sets_of c.args.may.now) n) c.code_at.ensures
          ∙ ap (λ w. shown_in (flags_of c.args.asked.now n) (dues_of c.args.due.now n) w c.args.issuer (sure_of c.args.sure.now) (sets_of c.args.may.now) n) c.flag_at-in-loop-n.ensures),
    )

pub returns : goal.returns
returns c =
    let all : c.loop-n.n ≡ 32 = omega (arith, c.loop-n-test.false, c.loop-n.auto.n-end) in
    let flags : length c.args.asked.now ≡ 32 = search (rules, arith) in
    all_flags true c.loop-n.settled (λ m. shown_in (flags_of c.args.asked.now m) (dues_of c.args.due.now m) (flags_of c.args.shown.now m) c.args.issuer (sure_of c.args.sure.now) (sets_of c.args.may.now) m) c.loop-n.n all c.loop-n.invariant.0 c.loop-n.invariant.1 (shown_past c.args.asked.now c.args.due.now c.args.shown.now c.args.issuer (sure_of c.args.sure.now) (sets_of c.args.may.now) flags)

pub returns-then-is_none_awaiting : goal.returns-then-is_none_awaiting
returns-then-is_none_awaiting c =
    let flags : length c.args.asked.now ≡ 32 = search (rules, arith) in
    let dues : length c.args.due.now ≡ 32 = search (rules, arith) in
    none_awaits c.args.asked.now c.args.due.now c.args.shown.now c.args.issuer (sure_of c.args.sure.now) (sets_of c.args.may.now) flags dues (sym c.is_none_awaiting.ensures ∙ c.if-is_none_awaiting.true)
