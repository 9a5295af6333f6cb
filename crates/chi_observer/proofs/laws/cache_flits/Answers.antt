use Rattle.chi_observer.proofs.Back.{comes}
use Rattle.chi_observer.proofs.Cache.{taken, leads, tells_value}
use Rattle.chi_observer.proofs.Comes.{kept}
use Rattle.chi_observer.proofs.Sent.{flits_possible}
use Rattle.chi_observer.proofs.laws.cache_flits.Goals as goal

pub returns-clause-taken : goal.returns-clause-taken
returns-clause-taken c = taken

pub returns-clause-leads : goal.returns-clause-leads
returns-clause-leads c = leads

pub returns-clause-tells : goal.returns-clause-tells
returns-clause-tells c = tells_value

pub returns-clause-sound : goal.returns-clause-sound
returns-clause-sound c = kept

pub returns-clause-comes : goal.returns-clause-comes
returns-clause-comes c = comes

pub returns-clause-possible : goal.returns-clause-possible
returns-clause-possible c = flits_possible
