-- So far each line is coherent.
use Rattle.std.proofs.Common.{◌↔◌}
use Rattle.std.specs.Prelude.{IsTrue}
use Rattle.chi_slice.specs.Coherence.{IsLineCoherent}
use Rattle.chi_slice.proofs.Below.{AllBelow}
use Rattle.chi_slice.proofs.audits.are_lines_coherent.Given as goal

abbrev pub invariant-loop-line : goal.invariant-loop-line
invariant-loop-line g l = IsTrue l.coherent ↔ AllBelow (IsLineCoherent l.slice) l.line
