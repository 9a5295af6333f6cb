-- By the law of tails.
use Rattle.chi_watch.proofs.TailLemmas.{tail_is_judged}
use Rattle.chi_watch.proofs.laws.judged_tails.Goals as goal

pub returns : goal.returns
returns c = tail_is_judged c.tails.ensures.taken
