-- That of its members.
use Rattle.chi_copies.proofs.standing.Standing.first.Goals as goal

pub returns-clause-may : goal.returns-clause-may
returns-clause-may c = c.first.ensures
