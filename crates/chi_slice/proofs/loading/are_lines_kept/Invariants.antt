-- So far each line keeps what a line keeps.
use Rattle.std.proofs.Common.{◌↔◌}
use Rattle.std.specs.Prelude.{IsTrue}
use Rattle.chi_slice.specs.Loading.{IsKeptAt}
use Rattle.chi_slice.specs.Slice.{slice_with}
use Rattle.chi_slice.proofs.Below.{AllBelow}
use Rattle.chi_slice.proofs.loading.are_lines_kept.Given as goal

abbrev pub invariant-loop-line : goal.invariant-loop-line
invariant-loop-line g l = IsTrue l.kept ↔ AllBelow (IsKeptAt (slice_with l.config l.index l.lines l.journal)) l.line
