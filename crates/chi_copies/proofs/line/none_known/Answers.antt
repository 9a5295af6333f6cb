-- No words are known.
use Rattle.chi_copies.proofs.Lines.{none_are_known}
use Rattle.chi_copies.proofs.line.none_known.Goals as goal

pub returns : goal.returns
returns c = none_are_known
