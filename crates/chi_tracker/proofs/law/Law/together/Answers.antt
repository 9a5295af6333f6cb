use Rattle.chi_tracker.proofs.Together.{all_of}
use Rattle.chi_tracker.proofs.law.Law.together.Goals as goal

pub returns : goal.returns
returns c = all_of
