-- The rows from this one on have the answer.
use Rattle.std.proofs.Common.{◌≡◌, map, drop}
use Rattle.chi_issue_b.specs.Near.{is_near}
use Rattle.chi_issue_b.specs.Opcodes.{first_of, lent_row}
use Rattle.chi_issue_b.proofs.near.near_in.Given as goal

abbrev pub invariant-loop-row : goal.invariant-loop-row
invariant-loop-row l =
    first_of (is_near l.word) (map lent_row (drop l.row-index l.rows)) ≡ first_of (is_near l.word) (map lent_row l.rows)
