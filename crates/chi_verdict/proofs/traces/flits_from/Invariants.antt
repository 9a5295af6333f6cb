use Rattle.std.proofs.Common.{◌≡◌, ◌+◌, ◌≤◌, length}
use Rattle.chi_script.specs.Files.{lines_of}
use Rattle.chi_verdict.specs.Traces.{seen_of, trace_from}
use Rattle.chi_verdict.proofs.TraceLemmas.{with_front}
use Rattle.chi_verdict.proofs.traces.flits_from.Given as goal

abbrev pub invariant-loop-line : goal.invariant-loop-line
invariant-loop-line g l = record {
  so_far : with_front l.flits.items (trace_from l.number (lines_of l.rest)) ≡ seen_of (trace_from 1 (lines_of l.bytes));
  count : l.number + length l.rest ≤ 1 + length l.bytes;
}

abbrev pub decreases-loop-line : goal.decreases-loop-line
decreases-loop-line g l = length l.rest
