use Rattle.std.proofs.Common.{ap, sym}
use Rattle.chi_observe.specs.Judges.{judged, worded}
use Rattle.chi_observe.proofs.judges.Judge.show.Goals as goal

pub returns-in-Whole : goal.returns-in-Whole
returns-in-Whole g c = ap (λ judge. worded c.args.words (judged judge)) (sym c.in-Whole.is)
