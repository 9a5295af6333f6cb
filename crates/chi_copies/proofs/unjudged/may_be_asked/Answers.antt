-- One more is set.
use Rattle.std.proofs.Common.{rules, arith, ◌≡◌, ℕ, ◌<◌, length, ap, subst, sym, ◌∙◌, slice_set}
use Rattle.std.specs.Prelude.{true, ◌||◌}
use Rattle.chi_observer.specs.Rules.{is_resending}
use Rattle.chi_copies.specs.BegunLines.{dues_of, flags_of}
use Rattle.chi_copies.specs.Dues.{due_is}
use Rattle.chi_copies.proofs.BegunLines.{more_flags}
use Rattle.chi_copies.proofs.unjudged.may_be_asked.Goals as goal

pub loop-n-preserved : goal.loop-n-preserved
loop-n-preserved c =
    let n = c.loop-n.n in
    let flags = c.loop-n.asked_then in
    let x = c.is_asked.result in
    let some : n < 32 = search (rules, arith, c.loop-n-test) in
    let whole : length (slice_set flags n x) ≡ 32 = search (rules, arith, c.loop-n.invariant.0) in (
      whole,
      more_flags true flags (λ m. flags_of c.args.asked.now m || is_resending (dues_of c.args.due.now m)) n x c.loop-n.invariant.0 some c.loop-n.invariant.1
          (c.is_asked.ensures ∙ (λ i. c.flag_at.ensures i || is_resending (c.due.ensures i)) ∙ ap (λ d. flags_of c.args.asked.now n || is_resending (due_is d)) c.code_at.ensures),
    )

pub returns : goal.returns
returns c =
    let all : c.loop-n.n ≡ 32 = omega (arith, c.loop-n-test.false, c.loop-n.auto.n-end) in
    λ m low. c.loop-n.invariant.1 m (subst (λ (k : ℕ). m < k) (sym all) low)
