-- Every slice is coherent.
use Rattle.chi_line.proofs.Coherence.{coherent}
use Rattle.chi_line.proofs.LineCoherence.{coherent_is}
use Rattle.chi_slice.specs.Coherence.{IsCoherentSlice}
use Rattle.chi_slice.specs.Slice.{SliceKept, SliceState, last_of, line}

-- what a slice keeps is that it is coherent
pub coherent_slice : (s : SliceState) → SliceKept s → IsCoherentSlice s
coherent_slice s kept = record {
  lines = λ l inside. (coherent_is (last_of s l) (line s l) (kept.lines l inside).requesters (kept.lines l inside).flits).0 (coherent (last_of s l) (line s l) (kept.lines l inside));
  journal = kept.legal;
}
