-- All words are known, or none.
use Rattle.std.proofs.Common.{◌∙◌}
use Rattle.chi_observer.proofs.WordedLines.{all_unknown}
use Rattle.chi_observer.proofs.worded.KnownWords.all.Goals as goal

pub returns-in-None : goal.returns-in-None
returns-in-None c = c.none.ensures ∙ all_unknown c.args.words.now c.in-None.is
