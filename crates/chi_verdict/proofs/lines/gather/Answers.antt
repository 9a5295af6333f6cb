use Rattle.std.proofs.Common.{◌≡◌, get_or, arith}
use Rattle.chi_resolution.specs.declared.lines.Resolved.{Resolved}
use Rattle.chi_verdict.specs.declared.lines.Placed.{Placed}
use Rattle.chi_verdict.specs.Lines.{any_item, item_in}
use Rattle.chi_verdict.proofs.LineLemmas.{gathered_in}
use Rattle.chi_verdict.proofs.lines.gather.Goals as goal

pub loop-count-preserved : goal.loop-count-preserved
loop-count-preserved g c =
    let first : Placed = record { line = record { 0 = 0 }; place = 0 } in
    let placed : Placed = get_or c.args.order.now c.loop-count.count first in
    let item : Resolved = c.in-Some.item.now in
    let found : item ≡ item_in c.args.items.now placed = c.in-Some.ensures.lookup.4 (omega arith) (any_item placed.line) in
    gathered_in c.args.line c.args.items.now c.args.order.now c.loop-count.count first item c.loop-count.seen.items c.push.new.self.items c.loop-count-test.true found c.loop-count.invariant.0 c.loop-count.invariant.1 c.if-item-line.false
    c.in_ok-push.ensures.items
