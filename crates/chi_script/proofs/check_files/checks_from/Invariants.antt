use Rattle.std.proofs.Common.{◌≡◌, ◌+◌, ◌≤◌, length, map}
use Rattle.chi_script.specs.Files.{lines_of}
use Rattle.chi_script.specs.Checks.{line_of_check}
use Rattle.chi_script.specs.CheckFiles.{checks_of}
use Rattle.chi_script.proofs.CheckLoop.{with_front}
use Rattle.chi_script.proofs.check_files.checks_from.Given as goal

abbrev pub invariant-loop-line : goal.invariant-loop-line
invariant-loop-line g l = record {
  so_far : with_front (map line_of_check l.checks.items) (checks_of l.number (lines_of l.rest)) ≡ checks_of l.first (lines_of l.bytes);
  count : l.number + length l.rest ≤ l.first + length l.bytes;
}

abbrev pub decreases-loop-line : goal.decreases-loop-line
decreases-loop-line g l = length l.rest
