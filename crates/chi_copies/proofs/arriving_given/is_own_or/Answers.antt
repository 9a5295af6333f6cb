-- Itself, or another.
use Rattle.chi_copies.proofs.ArrivingAgents.{itself}
use Rattle.chi_copies.proofs.arriving_given.is_own_or.Goals as goal

pub returns-then-n-from : goal.returns-then-n-from
returns-then-n-from c = itself c.args.n c.from.result c.args.agent c.args.holds c.if-n-from.true c.from.ensures
