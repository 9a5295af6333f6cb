-- So far no request is held.
use Rattle.std.proofs.Common.{◌≡◌}
use Rattle.chi_observer.specs.Worlds.{all_below}
use Rattle.chi_observer.specs.Arriving.{holds_none}
use Rattle.chi_observer.specs.Arrivals.{arriving_of}
use Rattle.chi_observer.proofs.arrivals.is_none_held.Given as goal

abbrev pub invariant-loop-n : goal.invariant-loop-n
invariant-loop-n l = l.none ≡ all_below l.n (λ m. holds_none (arriving_of l.agents m).held)
