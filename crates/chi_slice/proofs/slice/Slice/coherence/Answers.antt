-- What a slice keeps is that it is coherent.
use Rattle.chi_slice.proofs.Always.{coherent_slice}
use Rattle.chi_slice.proofs.slice.Slice.coherence.Goals as goal

pub returns : goal.returns
returns g c = coherent_slice c.args.self.now c.journal.ensures.kept
