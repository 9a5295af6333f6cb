use Rattle.std.proofs.Common.{◌≡◌, ◌++◌, drop}
use Rattle.chi_verdict.specs.Lines.{items_of}
use Rattle.chi_verdict.proofs.lines.items_of.Given as goal

abbrev pub invariant-loop-item : goal.invariant-loop-item
invariant-loop-item g l = l.own.items ++ items_of l.line (drop l.item-index l.items) ≡ items_of l.line l.items
