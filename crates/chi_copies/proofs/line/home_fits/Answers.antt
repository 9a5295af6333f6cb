-- All are known, or none.
use Rattle.chi_copies.proofs.Plain.{home_fits, no_home_fits}
use Rattle.chi_copies.proofs.line.home_fits.Goals as goal

pub returns-in-None : goal.returns-in-None
returns-in-None c = no_home_fits c.args.home.now c.args.words.now c.in-None.is

pub returns-in-Some : goal.returns-in-Some
returns-in-Some c = home_fits c.args.home.now c.in-Some.known c.args.words.now c.same_words.result c.in-Some.is c.same_words.ensures
