-- So far each slice is coherent.
use Rattle.std.proofs.Common.{All, take}
use Rattle.chi_slice.specs.Coherence.{IsCoherentSlice}
use Rattle.chi_node.proofs.coherence.are_coherent.Given as goal

abbrev pub invariant-loop-slice : goal.invariant-loop-slice
invariant-loop-slice g l = All IsCoherentSlice (take l.slice-index l.slices)
