-- The lines so far.
use Rattle.std.proofs.Common.{◌≡◌, take}
use Rattle.chi_slice.proofs.slice.lines_in.Given as goal

abbrev pub invariant-loop-line : goal.invariant-loop-line
invariant-loop-line g l = l.copies.items ≡ take l.line-index l.lines
