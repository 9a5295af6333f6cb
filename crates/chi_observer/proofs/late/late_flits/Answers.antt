use Rattle.chi_observer.proofs.LateCopies.{together}
use Rattle.chi_observer.proofs.LateRuns.{taken}
use Rattle.chi_observer.proofs.late.late_flits.Goals as goal

pub returns-clause-taken : goal.returns-clause-taken
returns-clause-taken c = taken

pub returns-clause-together : goal.returns-clause-together
returns-clause-together c = together
