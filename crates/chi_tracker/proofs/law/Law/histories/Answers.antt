use Rattle.chi_tracker.proofs.Seats.{histories_agree}
use Rattle.chi_tracker.proofs.law.Law.histories.Goals as goal

pub returns : goal.returns
returns c = histories_agree
