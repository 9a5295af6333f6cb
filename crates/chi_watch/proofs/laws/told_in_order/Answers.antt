-- Whatever comes to a line.
use Rattle.chi_watch.proofs.LogLemmas.{in_order}
use Rattle.chi_watch.proofs.laws.told_in_order.Goals as goal

pub returns : goal.returns
returns c = in_order
