use Rattle.std.proofs.Common.{rules}
use Rattle.chi_verdict.specs.Lines.{AreLinesExplained, IsReordered, in_order}
use Rattle.chi_verdict.proofs.SortLemmas.{unsorted}
use Rattle.chi_verdict.proofs.lines.explain_lines.Goals as goal

pub returns-in-Ok-clause-explained : goal.returns-in-Ok-clause-explained
returns-in-Ok-clause-explained g c =
    let moved : IsReordered c.args.items.now.items (in_order c.args.items.now.items c.in_ok-order.order.items) = search rules in
    let done : AreLinesExplained c.args.config.now c.args.stores (in_order c.args.items.now.items c.in_ok-order.order.items) c.in-Ok.totals.actions c.in-Ok.totals.lines = search rules in
    unsorted c.args.config.now c.args.stores c.args.items.now.items (in_order c.args.items.now.items c.in_ok-order.order.items) c.in-Ok.totals.actions c.in-Ok.totals.lines moved done
