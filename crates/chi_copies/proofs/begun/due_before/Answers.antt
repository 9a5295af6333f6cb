-- One more is set.
use Rattle.std.proofs.Common.{rules, arith, ◌≡◌, ◌<◌, length, ap, ◌∙◌, slice_set}
use Rattle.std.specs.Prelude.{Bool, if◌then◌else◌}
use Rattle.chi_observer.specs.declared.flits.Due.TheVariants.{Nothing}
use Rattle.chi_copies.specs.Begun.{left_over}
use Rattle.chi_copies.specs.BegunLines.{flags_of}
use Rattle.chi_copies.proofs.BegunLines.{all_dues, more_dues, before_past}
use Rattle.chi_copies.proofs.begun.due_before.Goals as goal

pub loop-n-preserved : goal.loop-n-preserved
loop-n-preserved c =
    let n = c.loop-n.n in
    let due = c.loop-n.due in
    let x = c.code_before.result in
    let some : n < 32 = search (rules, arith, c.loop-n-test) in
    let whole : length (slice_set due n x) ≡ 32 = search (rules, arith, c.loop-n.invariant.0) in (
      whole,
      more_dues due (λ m. if flags_of c.args.asked.now m then left_over else Nothing) n x c.loop-n.invariant.0 some c.loop-n.invariant.1
          (c.code_before.ensures ∙ ap (λ (a : Bool). if a then left_over else Nothing) c.flag_at.ensures),
    )

pub returns : goal.returns
returns c =
    let all : c.loop-n.n ≡ 32 = omega (arith, c.loop-n-test.false, c.loop-n.auto.n-end) in
    let flags : length c.args.asked.now ≡ 32 = search (rules, arith) in
    all_dues c.loop-n.due (λ m. if flags_of c.args.asked.now m then left_over else Nothing) c.loop-n.n all c.loop-n.invariant.0 c.loop-n.invariant.1 (before_past c.args.asked.now flags)
