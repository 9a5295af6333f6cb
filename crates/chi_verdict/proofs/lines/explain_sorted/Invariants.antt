use Rattle.std.proofs.Common.{◌≤◌, ◌*◌, ◌-◌, length, take}
use Rattle.chi_verdict.specs.Lines.{in_order}
use Rattle.chi_verdict.proofs.LineLemmas.{LowerLines}
use Rattle.chi_verdict.proofs.lines.explain_sorted.Given as goal

abbrev pub invariant-loop-at : goal.invariant-loop-at
invariant-loop-at g l = (l.at ≤ length l.order) × (l.lines ≤ l.at) × (l.actions ≤ l.at * 18446744073709551615) × LowerLines l.floor l.config l.stores (take l.at (in_order l.items l.order)) l.actions l.lines

abbrev pub decreases-loop-at : goal.decreases-loop-at
decreases-loop-at g l = length l.order - l.at
