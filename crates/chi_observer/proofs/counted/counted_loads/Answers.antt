use Rattle.chi_observer.proofs.CountedLoads.{counted_come, counted_lead, counted_taken}
use Rattle.chi_observer.proofs.counted.counted_loads.Goals as goal

pub returns-clause-taken : goal.returns-clause-taken
returns-clause-taken c = counted_taken

pub returns-clause-leads : goal.returns-clause-leads
returns-clause-leads c = counted_lead

pub returns-clause-comes : goal.returns-clause-comes
returns-clause-comes c = counted_come
