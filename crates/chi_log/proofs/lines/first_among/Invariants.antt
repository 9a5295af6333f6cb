use Rattle.std.proofs.Common.{◌≡◌, drop}
use Rattle.std.specs.List.{find}
use Rattle.chi_log.specs.Lines.{is_wrong}
use Rattle.chi_log.proofs.lines.first_among.Given as goal

-- no column so far is wrong
abbrev pub invariant-loop-column : goal.invariant-loop-column
invariant-loop-column l =
    find (is_wrong l.options l.row) l.columns ≡ find (is_wrong l.options l.row) (drop l.column-index l.columns)
