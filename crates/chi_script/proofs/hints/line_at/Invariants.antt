-- Among the lines that are left is the one that is wanted.
use Rattle.std.proofs.Common.{◌≡◌, ◌-◌, [], length}
use Rattle.std.specs.List.{slice_index_or}
use Rattle.chi_script.specs.Files.{lines_of}
use Rattle.chi_script.proofs.hints.line_at.Given as goal

abbrev pub invariant-loop-line : goal.invariant-loop-line
invariant-loop-line l = slice_index_or (lines_of l.rest) (l.number - l.at) [] ≡ slice_index_or (lines_of l.bytes) (l.number - 1) []

abbrev pub decreases-loop-line : goal.decreases-loop-line
decreases-loop-line l = length l.rest
