use Rattle.chi_observer.proofs.WordedAlike.{alike}
use Rattle.chi_observer.proofs.WordedCounted.{stores_lead, stores_taken}
use Rattle.chi_observer.proofs.WordedGiven.{words_closed, words_lead_home}
use Rattle.chi_observer.proofs.WordedSent.{words_kept, words_lead, words_taken}
use Rattle.chi_observer.proofs.laws.worded_flits.Goals as goal

pub returns-clause-taken : goal.returns-clause-taken
returns-clause-taken c = words_taken

pub returns-clause-leads : goal.returns-clause-leads
returns-clause-leads c = words_lead

pub returns-clause-sound : goal.returns-clause-sound
returns-clause-sound c = words_kept

pub returns-clause-given : goal.returns-clause-given
returns-clause-given c = words_lead_home

pub returns-clause-closed : goal.returns-clause-closed
returns-clause-closed c = words_closed

pub returns-clause-counted : goal.returns-clause-counted
returns-clause-counted c = stores_taken

pub returns-clause-stored : goal.returns-clause-stored
returns-clause-stored c = stores_lead

pub returns-clause-alike : goal.returns-clause-alike
returns-clause-alike c = alike
