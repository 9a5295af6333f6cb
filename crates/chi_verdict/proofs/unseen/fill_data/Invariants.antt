use Rattle.chi_verdict.proofs.UnseenLemmas.{Leads}
use Rattle.chi_verdict.proofs.unseen.fill_data.Given as goal

abbrev pub invariant-loop-begun : goal.invariant-loop-begun
invariant-loop-begun g l = Leads l.unfinished l.begun-index l.items.items l.initial.items.items
