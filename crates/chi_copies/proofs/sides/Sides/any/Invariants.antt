-- So far some row has one, or none has.
use Rattle.std.proofs.Common.{◌≡◌}
use Rattle.chi_copies.specs.Sets.{any_below}
use Rattle.chi_copies.specs.ArrivingLines.{passes_at_row}
use Rattle.chi_copies.proofs.sides.Sides.any.Given as goal

abbrev pub invariant-loop-row : goal.invariant-loop-row
invariant-loop-row l = l.found ≡ any_below l.row (passes_at_row l.test l.of l.asked l.self)
