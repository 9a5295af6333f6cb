use Rattle.chi_observer.proofs.TailsTaken.{refused, taken}
use Rattle.chi_observer.proofs.cuts.tails.Goals as goal

pub returns-clause-taken : goal.returns-clause-taken
returns-clause-taken c = taken

pub returns-clause-refused : goal.returns-clause-refused
returns-clause-refused c = refused
