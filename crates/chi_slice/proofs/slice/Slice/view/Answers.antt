-- Each line of a slice is coherent.
use Rattle.std.proofs.Common.{sym}
use Rattle.chi_slice.proofs.Always.{coherent_slice}
use Rattle.chi_slice.proofs.slice.Slice.view.Goals as goal

pub returns-in-Some-clause-coherent : goal.returns-in-Some-clause-coherent
returns-in-Some-clause-coherent g c = (coherent_slice c.args.self.now c.in-Some.ensures.kept).lines c.args.line.0 (sym c.in-Some.ensures.inside)
