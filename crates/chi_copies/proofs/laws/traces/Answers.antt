use Rattle.chi_copies.proofs.Runs.{accepted, legal, exact, coherent_after}
use Rattle.chi_copies.proofs.Values.{shows_value}
use Rattle.chi_copies.proofs.laws.traces.Goals as goal

pub returns-clause-accepted : goal.returns-clause-accepted
returns-clause-accepted c = accepted

pub returns-clause-legal : goal.returns-clause-legal
returns-clause-legal c = legal

pub returns-clause-exact : goal.returns-clause-exact
returns-clause-exact c = exact

pub returns-clause-coherent : goal.returns-clause-coherent
returns-clause-coherent c = coherent_after

pub returns-clause-values : goal.returns-clause-values
returns-clause-values c = shows_value
