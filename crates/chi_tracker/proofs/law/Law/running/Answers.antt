use Rattle.chi_tracker.proofs.Whole.{running}
use Rattle.chi_tracker.proofs.law.Law.running.Goals as goal

pub returns : goal.returns
returns c = running
