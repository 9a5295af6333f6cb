use Rattle.chi_tracker.proofs.Whole.{views_are}
use Rattle.chi_tracker.proofs.law.Law.views.Goals as goal

pub returns : goal.returns
returns c = views_are
