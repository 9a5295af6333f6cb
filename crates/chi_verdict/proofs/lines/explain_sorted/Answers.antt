use Rattle.std.proofs.Common.{arith, subst}
use Rattle.std.proofs.lemmas.List.{take_all}
use Rattle.chi_verdict.specs.Lines.{AreLinesExplained, in_order}
use Rattle.chi_verdict.proofs.LineLemmas.{front_step, no_lines, order_length, rest_in}
use Rattle.chi_verdict.proofs.lines.explain_sorted.Goals as goal

pub loop-at-preserved : goal.loop-at-preserved
loop-at-preserved g c =
    let before = c.loop-at.invariant in
    let whole = order_length c.args.items.now c.args.order.now in
    let left = order_length c.args.items.now c.split_at.result.1.now in
    let step = front_step c.args.config.now c.args.stores c.loop-at.floor c.loop-at.at c.in_ok-front.front.count c.number_behind-floor.result c.loop-at.actions c.loop-at.lines c.in_ok-front.front.actions c.in_ok-front.front.line
    (in_order c.args.items.now c.args.order.now) (in_order c.args.items.now c.split_at.result.1.now) (rest_in c.args.items.now c.args.order.now c.split_at.result.1.now c.loop-at.at c.split_at.ensures.back) (omega (arith, before.0, whole)) (omega (arith, c.in_ok-front.ensures.bound, left))
    (omega (arith, c.if-front-eq0.false)) c.number_behind-floor.ensures (omega (arith, c.from.ensures, c.if-from-floor.false)) before.3 c.in_ok-front.ensures.line c.in_ok-front.ensures.explained in
    (omega (arith, step.0, whole), omega (arith, before.1), omega (arith, before.2), step.1)

-- all lines are behind
pub returns : goal.returns
returns g c =
    let whole = order_length c.args.items.now c.args.order.now in
    subst (λ l. AreLinesExplained c.args.config.now c.args.stores l c.loop-at.actions c.loop-at.lines) (take_all c.loop-at.at (in_order c.args.items.now c.args.order.now) (omega (arith, c.loop-at-test.false, whole))) c.loop-at.invariant.3.known

pub loop-at-init : goal.loop-at-init
loop-at-init g c = (omega arith, omega arith, omega arith, no_lines c.args.config.now c.args.stores)
