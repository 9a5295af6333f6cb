-- The verdict's parts together.
use Rattle.std.proofs.Common.{◌≡◌, ◌↔◌, List, Bool, true, ◌&&◌, All}
use Rattle.std.specs.Prelude.{IsTrue}
use Rattle.std.proofs.lemmas.Bool.{and_from, and_parts}
use Rattle.chi_slice.specs.Coherence.{IsCoherentSlice}
use Rattle.chi_slice.specs.Slice.{SliceState}
use Rattle.chi_storm.specs.Verdicts.{IsGood}

-- of slices that are audited
pub judged : (slices : List SliceState) (coherent agree all_open : Bool) → IsTrue coherent ↔ All IsCoherentSlice slices → IsTrue ((coherent && agree) && all_open) ↔ IsGood slices agree all_open
judged slices coherent agree all_open audited = (
  λ t. let a = and_parts (coherent && agree) all_open t in let b = and_parts coherent agree a.0 in record { coherent = audited.0 b.0; agreed = b.1; opened = a.1 },
  λ good. and_from (coherent && agree) all_open (and_from coherent agree (audited.1 good.coherent) good.agreed) good.opened,
)
