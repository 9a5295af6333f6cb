-- So far each slot was looked up.
use Rattle.chi_slice.specs.Loading.{lines_alone}
use Rattle.chi_slice.proofs.Loadings.{IndexedBelow}
use Rattle.chi_slice.proofs.loading.places_in.Given as goal

abbrev pub invariant-loop-number : goal.invariant-loop-number
invariant-loop-number l = IndexedBelow (lines_alone l.config l.index l.lines) l.places l.single l.number
