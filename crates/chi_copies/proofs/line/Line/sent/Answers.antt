-- It is the flit beside what is kept.
use Rattle.std.proofs.Common.{ap, ◌∙◌}
use Rattle.chi_observer.specs.Rules.{lets_go}
use Rattle.chi_copies.specs.Lines.{known_at}
use Rattle.chi_copies.proofs.Lines.{sent_is, fits_home_is}
use Rattle.chi_copies.proofs.line.Line.sent.Goals as goal

pub returns : goal.returns
returns c = sent_is c.args.self.now c.args.flit c.lets_go-goes.result c.due_of-due.result c.fits_by-home.result c.fits_by-news.result
    (c.lets_go-goes.ensures ∙ ap lets_go c.snooped_of-snooped.ensures) c.due_of-due.ensures
    (fits_home_is c.args.flit c.args.self.now.home (known_at c.home_words-words.result) c.fits_by-home.result c.requires.placed c.home_words-words.ensures c.fits_by-home.ensures)
    c.fits_by-news.ensures
