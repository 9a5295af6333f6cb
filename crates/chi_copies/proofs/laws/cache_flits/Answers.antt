use Rattle.chi_copies.proofs.Leads.{taken, leads}
use Rattle.chi_copies.proofs.Moved.{kept}
use Rattle.chi_copies.proofs.Comes.{comes}
use Rattle.chi_copies.proofs.laws.cache_flits.Goals as goal

pub returns-clause-taken : goal.returns-clause-taken
returns-clause-taken c = taken

pub returns-clause-leads : goal.returns-clause-leads
returns-clause-leads c = leads

pub returns-clause-sound : goal.returns-clause-sound
returns-clause-sound c = kept

pub returns-clause-comes : goal.returns-clause-comes
returns-clause-comes c = comes
