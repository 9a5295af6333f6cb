-- All words are known.
use Rattle.chi_copies.proofs.Lines.{some_home}
use Rattle.chi_copies.proofs.line.home_words.Goals as goal

pub returns-in-Some : goal.returns-in-Some
returns-in-Some c = some_home c.args.home.now c.in-Some.words c.in-Some.is
