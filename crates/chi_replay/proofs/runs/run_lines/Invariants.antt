-- The commands of the lines so far were played.
use Rattle.std.proofs.Common.{◌+◌, ◌≤◌, length, string_bytes}
use Rattle.chi_replay.specs.Session.{machine_of, ports_of}
use Rattle.chi_replay.proofs.LineRuns.{Played}
use Rattle.chi_replay.proofs.runs.run_lines.Given as goal

abbrev pub invariant-loop-line : goal.invariant-loop-line
invariant-loop-line g l = record {
  so_far : Played l.config l.lines l.number l.rest (string_bytes l.text) (machine_of l.system) (ports_of l.system);
  count : l.number + length l.rest ≤ 2 + length l.lines;
}

abbrev pub decreases-loop-line : goal.decreases-loop-line
decreases-loop-line g l = length l.rest
