use Rattle.chi_observer.proofs.ListedRuns.{accepted_words, coherent_words, exact_words, legal_words}
use Rattle.chi_observer.proofs.laws.listed_traces.Goals as goal

pub returns-clause-accepted : goal.returns-clause-accepted
returns-clause-accepted c = accepted_words

pub returns-clause-legal : goal.returns-clause-legal
returns-clause-legal c = legal_words

pub returns-clause-exact : goal.returns-clause-exact
returns-clause-exact c = exact_words

pub returns-clause-coherent : goal.returns-clause-coherent
returns-clause-coherent c = coherent_words
