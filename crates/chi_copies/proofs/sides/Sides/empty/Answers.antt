-- No row has a copy.
use Rattle.chi_copies.proofs.ArrivingRows.{no_rows}
use Rattle.chi_copies.proofs.sides.Sides.empty.Goals as goal

pub returns : goal.returns
returns c = λ asked h s. no_rows asked h s
