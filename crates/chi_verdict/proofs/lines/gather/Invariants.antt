use Rattle.std.proofs.Common.{◌≡◌, true, take}
use Rattle.std.specs.List.{All}
use Rattle.chi_verdict.specs.Lines.{in_order, is_on_line, said_by}
use Rattle.chi_verdict.proofs.lines.gather.Given as goal

abbrev pub invariant-loop-count : goal.invariant-loop-count
invariant-loop-count g l = All (λ item. is_on_line l.line item ≡ true) (take l.count (in_order l.items l.order)) × (l.seen.items ≡ said_by (take l.count (in_order l.items l.order)))
