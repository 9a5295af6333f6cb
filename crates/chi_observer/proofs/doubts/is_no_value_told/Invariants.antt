-- So far none tells it.
use Rattle.std.proofs.Common.{◌≡◌}
use Rattle.std.specs.Prelude.{not}
use Rattle.chi_observer.specs.Worlds.{all_below}
use Rattle.chi_observer.specs.Lines.{agent_of}
use Rattle.chi_observer.specs.Arrivals.{arriving_of}
use Rattle.chi_observer.specs.Doubts.{may_tell_value}
use Rattle.chi_observer.proofs.doubts.is_no_value_told.Given as goal

abbrev pub invariant-loop-n : goal.invariant-loop-n
invariant-loop-n l = l.none ≡ all_below l.n (λ m. not (may_tell_value (arriving_of l.own m) (agent_of l.seen m).due))
