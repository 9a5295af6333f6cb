-- So far as many lines in the opening state as turns.
use Rattle.std.proofs.Common.{◌≡◌, replicate}
use Rattle.chi_line.specs.LineState.{opening_line}
use Rattle.chi_slice.proofs.slice.opening_lines.Given as goal

abbrev pub invariant-loop : goal.invariant-loop
invariant-loop g l = l.lines.items ≡ replicate l.counter opening_line
