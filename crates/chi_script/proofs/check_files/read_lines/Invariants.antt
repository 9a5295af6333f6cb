use Rattle.std.proofs.Common.{◌≡◌, ◌+◌, ◌≤◌, length}
use Rattle.chi_script.specs.Files.{lines_of}
use Rattle.chi_script.specs.CheckFiles.{check_script_of}
use Rattle.chi_script.proofs.check_files.read_lines.Given as goal

abbrev pub invariant-loop-line : goal.invariant-loop-line
invariant-loop-line g l = record {
  so_far : check_script_of l.number (lines_of l.rest) ≡ check_script_of 1 (lines_of l.bytes);
  count : l.number + length l.rest ≤ 1 + length l.bytes;
}

abbrev pub decreases-loop-line : goal.decreases-loop-line
decreases-loop-line g l = length l.rest
