use Rattle.chi_tracker.proofs.Exactly.{places}
use Rattle.chi_tracker.proofs.law.Law.place.Goals as goal

pub returns : goal.returns
returns c = places
