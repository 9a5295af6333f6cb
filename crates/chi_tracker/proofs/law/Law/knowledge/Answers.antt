use Rattle.chi_tracker.proofs.Exactly.{knows}
use Rattle.chi_tracker.proofs.law.Law.knowledge.Goals as goal

pub returns : goal.returns
returns c = knows
