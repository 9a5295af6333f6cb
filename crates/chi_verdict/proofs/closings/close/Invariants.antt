use Rattle.chi_verdict.proofs.ClosingLemmas.{IsClosedSoFar}
use Rattle.chi_verdict.proofs.closings.close.Given as goal

abbrev pub invariant-loop-at : goal.invariant-loop-at
invariant-loop-at g l = IsClosedSoFar l.waiting l.at l.items.items l.fn.items.items
