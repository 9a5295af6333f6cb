-- It is the flit beside what is kept.
use Rattle.std.proofs.Common.{ap, ◌∙◌}
use Rattle.chi_observer.specs.Rules.{lets_go}
use Rattle.chi_copies.specs.BegunLines.{begun}
use Rattle.chi_copies.specs.Lines.{known_at}
use Rattle.chi_copies.proofs.Lines.{fits_home_is}
use Rattle.chi_copies.proofs.BegunTaken.{sent_is}
use Rattle.chi_copies.proofs.begun.Begun.sent_with.Goals as goal

pub returns : goal.returns
returns c = sent_is (begun c.args.self.now) c.args.flit c.args.words.now c.lets_go-goes.result c.due_in-due.result c.fits_by-home.result c.fits_by-news.result (known_at c.none_known-none.result)
    (c.lets_go-goes.ensures ∙ ap lets_go c.snooped_of-snooped.ensures) c.due_in-due.ensures
    (fits_home_is c.args.flit c.args.words.now (known_at c.home_words-known.result) c.fits_by-home.result c.requires.placed c.home_words-known.ensures c.fits_by-home.ensures)
    c.none_known-none.ensures c.fits_by-news.ensures
