-- So far none can have been stored to.
use Rattle.std.proofs.Common.{◌≡◌}
use Rattle.std.specs.Prelude.{not}
use Rattle.chi_observer.specs.Moments.{may_be_stored, tells_of}
use Rattle.chi_observer.specs.Worlds.{all_below}
use Rattle.chi_observer.specs.Lines.{agent_of, known_of}
use Rattle.chi_observer.proofs.moments.is_none_stored.Given as goal

abbrev pub invariant-loop-n : goal.invariant-loop-n
invariant-loop-n l = l.none ≡ all_below l.n (λ m. not (may_be_stored l.stores (agent_of l.agents m).due (known_of (agent_of l.agents m)) (tells_of l.flit m)))
