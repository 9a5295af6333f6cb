-- The verdict is true, since every slice is coherent.
use Rattle.chi_slice.proofs.audits.check_slice.Goals as goal

pub returns-else-are_lines_coherent-clause-always : goal.returns-else-are_lines_coherent-clause-always
returns-else-are_lines_coherent-clause-always g c = c.are_lines_coherent.ensures.1 c.coherence.ensures.lines
