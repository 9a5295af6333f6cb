-- So far no line shows the slot.
use Rattle.chi_slice.specs.Loading.{IsHiddenAt, lines_alone}
use Rattle.chi_slice.proofs.Below.{AllBelow}
use Rattle.chi_slice.proofs.loading.first_place.Given as goal

abbrev pub invariant-loop-line : goal.invariant-loop-line
invariant-loop-line l = AllBelow (IsHiddenAt (lines_alone l.config l.index l.lines) l.agent.0 l.slot) l.line
