use Rattle.chi_monitor.specs.Choices.{AreInterchangeable}
use Rattle.chi_monitor.proofs.choices.allowed.Given as goal

abbrev pub invariant-loop-candidate : goal.invariant-loop-candidate
invariant-loop-candidate g l = AreInterchangeable l.seen l.allowed.items
