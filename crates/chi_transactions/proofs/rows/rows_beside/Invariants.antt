use Rattle.std.proofs.Common.{◌≡◌, take}
use Rattle.chi_transactions.specs.Rows.{rows_beside}
use Rattle.chi_transactions.proofs.rows.rows_beside.Given as goal

abbrev pub invariant-loop-row : goal.invariant-loop-row
invariant-loop-row l = l.parts ≡ rows_beside l.came (take l.row-index l.rows)
