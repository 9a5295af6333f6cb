use Rattle.std.proofs.Common.{◌≡◌, ◌+◌, ◌≤◌, length}
use Rattle.chi_script.specs.Files.{lines_of}
use Rattle.chi_trace.specs.Files.{trace_flits}
use Rattle.chi_trace.proofs.FlitLoop.{with_front}
use Rattle.chi_trace.proofs.files.flits_from.Given as goal

abbrev pub invariant-loop-line : goal.invariant-loop-line
invariant-loop-line g l = record {
  so_far : with_front l.flits.items (trace_flits l.number (lines_of l.rest)) ≡ trace_flits 1 (lines_of l.bytes);
  count : l.number + length l.rest ≤ 1 + length l.bytes;
}

abbrev pub decreases-loop-line : goal.decreases-loop-line
decreases-loop-line g l = length l.rest
