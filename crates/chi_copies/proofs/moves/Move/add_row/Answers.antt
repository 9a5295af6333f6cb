-- A row with no copy leads to nothing.
use Rattle.chi_copies.specs.ArrivingLines.{moves, sides_of}
use Rattle.chi_copies.proofs.ArrivingSides.{none_of_row}
use Rattle.chi_copies.proofs.moves.Move.add_row.Goals as goal

pub returns-then-from-row-eq0 : goal.returns-then-from-row-eq0
returns-then-from-row-eq0 c = λ h s. none_of_row (moves c.args.self c.args.asked) c.args.asked c.args.from.now c.args.row h s (sides_of c.args.asked c.args.left.now h s) c.if-from-row-eq0.true
