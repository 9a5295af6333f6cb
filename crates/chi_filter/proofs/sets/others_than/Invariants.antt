-- So far each mark is left but the agent's.
use Rattle.chi_filter.proofs.Without.{LeftBelow}
use Rattle.chi_filter.proofs.sets.others_than.Given as goal

abbrev pub invariant-loop-n : goal.invariant-loop-n
invariant-loop-n l = LeftBelow l.set l.alone l.others l.n
