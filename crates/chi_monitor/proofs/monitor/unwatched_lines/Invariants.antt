-- So far as many lines of which nothing was seen as turns.
use Rattle.std.proofs.Common.{◌≡◌, replicate}
use Rattle.chi_monitor.specs.Watched.{unwatched_line}
use Rattle.chi_monitor.proofs.monitor.unwatched_lines.Given as goal

abbrev pub invariant-loop : goal.invariant-loop
invariant-loop g l = l.lines.items ≡ replicate l.counter (unwatched_line l.room)
