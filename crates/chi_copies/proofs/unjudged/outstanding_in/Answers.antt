-- One more agent's are counted.
use Rattle.std.proofs.Common.{arith, ◌≡◌, ◌≤◌, ◌+◌, ◌*◌, ap, ◌∙◌}
use Rattle.chi_copies.specs.BegunLines.{dues_of, flags_of}
use Rattle.chi_copies.specs.Dues.{due_is}
use Rattle.chi_copies.specs.Lines.{snooped_at}
use Rattle.chi_copies.specs.Unjudged.{outstanding_of}
use Rattle.chi_copies.proofs.Counts.{one_further, sum_whole}
use Rattle.chi_copies.proofs.unjudged.outstanding_in.Goals as goal

pub loop-n-preserved : goal.loop-n-preserved
loop-n-preserved c =
    let n = c.loop-n.n in
    let x = c.outstanding_of-outstanding.result in
    let low : c.loop-n.outstanding + x ≤ 2 * (n + 1) = omega (arith, c.loop-n.invariant.1, c.outstanding_of-outstanding.ensures.low) in (
      one_further n x c.loop-n.outstanding (λ m. outstanding_of (flags_of c.args.asked.now m) (dues_of c.args.due.now m) (snooped_at c.args.snooped.now m)) c.loop-n.invariant.0
          (c.outstanding_of-outstanding.ensures.is ∙ (λ i. outstanding_of (c.flag_at.ensures i) (c.due.ensures i) (snooped_at c.args.snooped.now n))
          ∙ ap (λ d. outstanding_of (flags_of c.args.asked.now n) (due_is d) (snooped_at c.args.snooped.now n)) c.code_at.ensures),
      low,
    )

pub returns : goal.returns
returns c =
    let all : c.loop-n.n ≡ 32 = omega (arith, c.loop-n-test.false, c.loop-n.auto.n-end) in
    sum_whole c.loop-n.n c.loop-n.outstanding (λ m. outstanding_of (flags_of c.args.asked.now m) (dues_of c.args.due.now m) (snooped_at c.args.snooped.now m)) all c.loop-n.invariant.0
