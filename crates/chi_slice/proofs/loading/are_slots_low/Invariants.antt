-- So far no slot has a number above 7.
use Rattle.std.proofs.Common.{◌↔◌}
use Rattle.std.specs.Prelude.{IsTrue}
use Rattle.chi_slice.specs.Loading.{IsLowAt, lines_alone}
use Rattle.chi_slice.proofs.Below.{AllBelow}
use Rattle.chi_slice.proofs.loading.are_slots_low.Given as goal

abbrev pub invariant-loop-line : goal.invariant-loop-line
invariant-loop-line l = IsTrue l.low ↔ AllBelow (IsLowAt (lines_alone l.config l.index l.lines)) l.line
