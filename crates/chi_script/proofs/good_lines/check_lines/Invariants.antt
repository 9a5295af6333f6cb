use Rattle.std.proofs.Common.{◌+◌, ◌≤◌, length}
use Rattle.chi_script.proofs.CommandLoop.{SoFar}
use Rattle.chi_script.proofs.good_lines.check_lines.Given as goal

abbrev pub invariant-loop-line : goal.invariant-loop-line
invariant-loop-line l = record {
  so_far : SoFar l.lines l.number l.rest;
  count : l.number + length l.rest ≤ 2 + length l.lines;
}

abbrev pub decreases-loop-line : goal.decreases-loop-line
decreases-loop-line l = length l.rest
