-- So far each agent's flits from before were told.
use Rattle.std.proofs.Common.{◌≡◌}
use Rattle.chi_copies.specs.BegunLines.{begun}
use Rattle.chi_watch.specs.Judges.{woken_below}
use Rattle.chi_watch.proofs.judge.wake_all.Given as goal

abbrev pub invariant-loop-n : goal.invariant-loop-n
invariant-loop-n l = begun l.line ≡ woken_below l.n l.strays l.last (begun l.initial.line)
