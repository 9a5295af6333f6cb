-- So far the copies of some row.
use Rattle.std.proofs.Common.{◌≡◌}
use Rattle.chi_copies.specs.Copies.{Held}
use Rattle.chi_copies.specs.Sets.{any_below, members}
use Rattle.chi_copies.specs.ArrivingLines.{copies_at_row}
use Rattle.chi_copies.proofs.sides.Sides.copies.Given as goal

abbrev pub invariant-loop-row : goal.invariant-loop-row
invariant-loop-row l = (h : Held) → members l.copies h ≡ any_below l.row (λ p. copies_at_row l.asked l.self p h)
