use Rattle.chi_copies.proofs.TailRuns.{taken, refused, returns_taken, returns_refused}
use Rattle.chi_copies.proofs.laws.tails.Goals as goal

pub returns-clause-taken : goal.returns-clause-taken
returns-clause-taken c = taken

pub returns-clause-refused : goal.returns-clause-refused
returns-clause-refused c = refused

pub returns-clause-returns : goal.returns-clause-returns
returns-clause-returns c = returns_taken

pub returns-clause-impossible : goal.returns-clause-impossible
returns-clause-impossible c = returns_refused
