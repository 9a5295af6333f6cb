-- Each word may be the home's.
use Rattle.chi_copies.specs.Lines.{known_at}
use Rattle.chi_copies.proofs.Lines.{fits_home_by}
use Rattle.chi_copies.proofs.arriving.fits_words.Goals as goal

pub returns : goal.returns
returns c = fits_home_by c.args.home.now (known_at c.home_words-known.result) c.args.words.now c.fits_each.result c.home_words-known.ensures c.fits_each.ensures
