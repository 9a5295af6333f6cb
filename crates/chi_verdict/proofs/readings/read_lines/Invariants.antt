use Rattle.std.proofs.Common.{◌≡◌, ◌+◌, ◌≤◌, length}
use Rattle.chi_script.specs.Files.{lines_of}
use Rattle.chi_verdict.specs.Readings.{lines_read, nothing_read}
use Rattle.chi_verdict.proofs.readings.read_lines.Given as goal

abbrev pub invariant-loop-line : goal.invariant-loop-line
invariant-loop-line g l = record {
  so_far : lines_read l.options l.number (lines_of l.rest) l.reader ≡ lines_read l.options 1 (lines_of l.bytes) nothing_read;
  count : l.number + length l.rest ≤ 1 + length l.bytes;
}

abbrev pub decreases-loop-line : goal.decreases-loop-line
decreases-loop-line g l = length l.rest
