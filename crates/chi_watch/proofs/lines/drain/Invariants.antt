-- What is left of the queue comes to the same as all of it did.
use Rattle.std.proofs.Common.{length}
use Rattle.chi_watch.specs.Held.{held_in}
use Rattle.chi_watch.specs.Judges.{judged}
use Rattle.chi_watch.specs.Lines.{drained, nothing_done}
use Rattle.chi_watch.proofs.DrainLemmas.{Draining}
use Rattle.chi_watch.proofs.lines.drain.Given as goal

abbrev pub invariant-loop-flit : goal.invariant-loop-flit
invariant-loop-flit g l = Draining l.strays (drained l.strays (judged l.initial.judge) (held_in l.initial.held) nothing_done) (judged l.judge) (held_in l.held) l.done

abbrev pub decreases-loop-flit : goal.decreases-loop-flit
decreases-loop-flit g l = length (held_in l.held)
