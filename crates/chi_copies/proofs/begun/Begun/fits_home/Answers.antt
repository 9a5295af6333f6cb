-- Each word may be the home's.
use Rattle.chi_copies.specs.Lines.{known_at}
use Rattle.chi_copies.proofs.Lines.{fits_home_by}
use Rattle.chi_copies.proofs.begun.Begun.fits_home.Goals as goal

pub returns : goal.returns
returns c = fits_home_by c.args.self.now.home (known_at c.home_words-words.result) c.args.flit.shown c.fits_each.result c.home_words-words.ensures c.fits_each.ensures
