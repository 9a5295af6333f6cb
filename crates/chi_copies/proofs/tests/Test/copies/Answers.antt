-- Those that a store may be to, of the one sort.
use Rattle.std.proofs.Common.{sym, ap, ◌∙◌}
use Rattle.std.specs.Prelude.{◌&&◌}
use Rattle.chi_copies.specs.Lines.{passes}
use Rattle.chi_copies.proofs.Bits.{unique_empty, unique_newer}
use Rattle.chi_copies.proofs.tests.Test.copies.Goals as goal

pub returns-in-StorableEmpty : goal.returns-in-StorableEmpty
returns-in-StorableEmpty c = λ h. c.and.ensures h ∙ (λ i. c.storable.ensures h i && unique_empty h i) ∙ ap (λ t. passes t h) (sym c.in-StorableEmpty.is)

pub returns-in-StorableNewer : goal.returns-in-StorableNewer
returns-in-StorableNewer c = λ h. c.and-in-StorableNewer.ensures h ∙ (λ i. c.storable-in-StorableNewer.ensures h i && unique_newer h i) ∙ ap (λ t. passes t h) (sym c.in-StorableNewer.is)
