use Rattle.chi_copies.proofs.Means.{coherent}
use Rattle.chi_copies.proofs.Closing.{closed}
use Rattle.chi_copies.proofs.Loose.{loosens}
use Rattle.chi_copies.proofs.Rewind.{rewinds}
use Rattle.chi_copies.proofs.Top.{each_in_some}
use Rattle.chi_copies.proofs.laws.meaning.Goals as goal

pub returns-clause-coherent : goal.returns-clause-coherent
returns-clause-coherent c = coherent

pub returns-clause-closed : goal.returns-clause-closed
returns-clause-closed c = closed

pub returns-clause-loosens : goal.returns-clause-loosens
returns-clause-loosens c = loosens

pub returns-clause-rewinds : goal.returns-clause-rewinds
returns-clause-rewinds c = rewinds

pub returns-clause-some : goal.returns-clause-some
returns-clause-some c = each_in_some
