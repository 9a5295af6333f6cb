use Rattle.chi_observer.proofs.Cache.{coherent}
use Rattle.chi_observer.proofs.Comes.{closed}
use Rattle.chi_observer.proofs.laws.meaning.Goals as goal

pub returns-clause-coherent : goal.returns-clause-coherent
returns-clause-coherent c = coherent

pub returns-clause-closed : goal.returns-clause-closed
returns-clause-closed c = closed
