-- So far each line shows what the place says.
use Rattle.std.proofs.Common.{◌↔◌}
use Rattle.std.specs.Prelude.{IsTrue}
use Rattle.chi_slice.specs.Loading.{IsShownAt, lines_alone}
use Rattle.chi_slice.proofs.Below.{AllBelow}
use Rattle.chi_slice.proofs.loading.is_single.Given as goal

abbrev pub invariant-loop-line : goal.invariant-loop-line
invariant-loop-line l = IsTrue l.shown ↔ AllBelow (IsShownAt (lines_alone l.config l.index l.lines) l.agent.0 l.slot l.place) l.line
