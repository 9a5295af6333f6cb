-- The words, and whose they may be.
use Rattle.std.specs.Prelude.{not}
use Rattle.chi_copies.proofs.arriving.Arriving.coming.Goals as goal

pub returns : goal.returns
returns c = λ i. record { act = c.args.flit.now.act; own = c.fits_words.ensures i; last = not (c.is_elsewhere.ensures i) }
