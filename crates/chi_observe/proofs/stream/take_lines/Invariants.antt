use Rattle.std.proofs.Common.{◌≡◌, ℕ, List, ◌++◌, length}
use Rattle.chi_script.specs.Files.{lines_of}
use Rattle.chi_observe.specs.Streams.{trace_after}
use Rattle.chi_observe.specs.Watched.{watched}
use Rattle.chi_observe.proofs.stream.take_lines.Given as goal

abbrev pub invariant-loop-line : goal.invariant-loop-line
invariant-loop-line g l = (more : List ℕ) → trace_after (watched l.fn.watch) l.fn.number (lines_of (l.bytes ++ more)) ≡ trace_after (watched l.watch) l.number (lines_of (l.rest ++ more))

abbrev pub decreases-loop-line : goal.decreases-loop-line
decreases-loop-line g l = length l.rest
