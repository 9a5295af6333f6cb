-- So far each agent's flits from before were told.
use Rattle.std.proofs.Common.{◌≡◌}
use Rattle.chi_observer.specs.Begun.{begun}
use Rattle.chi_observe.specs.Judges.{before_of, woken_below}
use Rattle.chi_observe.proofs.judges.BegunLine.woken.Given as goal

abbrev pub invariant-loop-n : goal.invariant-loop-n
invariant-loop-n l = begun l.next ≡ woken_below l.n (before_of l.before) l.self.synced (begun l.self.begun)
