use Rattle.chi_tracker.specs.Totals.{AreCredits}
use Rattle.chi_tracker.proofs.closing.credits.Given as goal

abbrev pub invariant-loop-agent : goal.invariant-loop-agent
invariant-loop-agent l = AreCredits l.shape l.words l.dues l.agent l.all.items
