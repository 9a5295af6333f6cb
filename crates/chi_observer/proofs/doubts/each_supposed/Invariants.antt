-- So far each counts as sent.
use Rattle.std.proofs.Common.{◌≡◌, ℕ, ◌<◌, length}
use Rattle.chi_observer.specs.Lines.{agent_of}
use Rattle.chi_observer.specs.Arrivals.{arriving_of}
use Rattle.chi_observer.specs.Doubts.{supposed_agent}
use Rattle.chi_observer.proofs.doubts.each_supposed.Given as goal

abbrev pub invariant-loop-n : goal.invariant-loop-n
invariant-loop-n l = (length l.agents ≡ 32) × ((m : ℕ) → m < l.n → agent_of l.agents m ≡ supposed_agent (arriving_of l.own m) (agent_of l.seen m))
