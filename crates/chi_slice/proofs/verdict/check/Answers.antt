-- A verdict on the plain data is one on the line that it shows.
use Rattle.chi_slice.proofs.Shown.{verdict_on}
use Rattle.chi_slice.proofs.verdict.check.Goals as goal

pub returns-clause-line : goal.returns-clause-line
returns-clause-line c = verdict_on c.args.view.now c.is_coherent.result c.is_coherent.ensures
