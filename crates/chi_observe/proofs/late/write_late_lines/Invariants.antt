use Rattle.std.proofs.Common.{◌≡◌, ◌++◌, take, string_bytes}
use Rattle.std.specs.List.{flat_map}
use Rattle.chi_observe.specs.Lines.{lines_in}
use Rattle.chi_observe.specs.Told.{late_line}
use Rattle.chi_observe.proofs.late.write_late_lines.Given as goal

abbrev pub invariant-loop-row : goal.invariant-loop-row
invariant-loop-row g l =
    string_bytes l.text ≡ string_bytes l.initial.text ++ flat_map (late_line (lines_in l.lines.entries)) (take l.row-index l.rows)
