-- So far no CompAck is on its way.
use Rattle.std.proofs.Common.{◌≡◌}
use Rattle.std.specs.Prelude.{◌==◌}
use Rattle.chi_observer.specs.Worlds.{all_below}
use Rattle.chi_observer.specs.Arrivals.{arriving_of}
use Rattle.chi_observer.proofs.arrivals.is_acknowledged.Given as goal

abbrev pub invariant-loop-n : goal.invariant-loop-n
invariant-loop-n l = l.none ≡ all_below l.n (λ m. (arriving_of l.agents m).acks == 0)
