-- The rows from this one on have the answer.
use Rattle.std.proofs.Common.{◌≡◌, map, drop}
use Rattle.chi_issue_b.specs.Resp.{first_of, is_named, lent_row}
use Rattle.chi_issue_b.proofs.resp.named_in.Given as goal

abbrev pub invariant-loop-row : goal.invariant-loop-row
invariant-loop-row l =
    first_of (is_named l.word) (map lent_row (drop l.row-index l.rows)) ≡ first_of (is_named l.word) (map lent_row l.rows)
