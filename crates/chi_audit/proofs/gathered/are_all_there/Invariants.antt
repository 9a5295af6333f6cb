use Rattle.chi_audit.specs.Gathered.{AreAllThere}
use Rattle.chi_audit.proofs.gathered.are_all_there.Given as goal

abbrev pub invariant-loop-agent : goal.invariant-loop-agent
invariant-loop-agent l = AreAllThere l.agent l.places
