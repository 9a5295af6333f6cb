use Rattle.std.proofs.Common.{◌≡◌, ◌+◌, ◌≤◌, length}
use Rattle.chi_script.specs.Files.{lines_of}
use Rattle.chi_script.specs.Storms.{operations_from}
use Rattle.chi_script.proofs.OperationLoop.{with_front}
use Rattle.chi_script.proofs.storms.read_operations.Given as goal

abbrev pub invariant-loop-line : goal.invariant-loop-line
invariant-loop-line g l = record {
  so_far : with_front l.operations.items (operations_from l.header l.number (lines_of l.rest)) ≡ operations_from l.header 2 (lines_of l.bytes);
  count : l.number + length l.rest ≤ 2 + length l.bytes;
}

abbrev pub decreases-loop-line : goal.decreases-loop-line
decreases-loop-line g l = length l.rest
