use Rattle.std.proofs.Common.{◌≡◌, ◌++◌, drop}
use Rattle.chi_verdict.specs.Lines.{said_by}
use Rattle.chi_verdict.proofs.lines.said_by.Given as goal

abbrev pub invariant-loop-item : goal.invariant-loop-item
invariant-loop-item g l = l.seen.items ++ said_by (drop l.item-index l.items) ≡ said_by l.items
