-- The home's words are the value where they are said to be.
use Rattle.std.proofs.Common.{◌∙◌}
use Rattle.chi_observer.proofs.WordedLines.{known_by}
use Rattle.chi_observer.proofs.worded.WordedObserver.known_words.Goals as goal

pub returns-then-self : goal.returns-then-self
returns-then-self c = c.all.ensures ∙ known_by c.args.self.now.seen.current c.args.self.now.seen.home _ c.if-self.true
