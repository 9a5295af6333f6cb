-- So far nobody is busy.
use Rattle.std.proofs.Common.{◌≡◌}
use Rattle.std.specs.Prelude.{not}
use Rattle.chi_observer.specs.Rules.{is_busy}
use Rattle.chi_observer.specs.Worlds.{all_below}
use Rattle.chi_observer.specs.Lines.{agent_of}
use Rattle.chi_observer.proofs.observer.is_quiet.Given as goal

abbrev pub invariant-loop-n : goal.invariant-loop-n
invariant-loop-n l = l.quiet ≡ all_below l.n (λ m. not (is_busy (agent_of l.agents m).due))
