use Rattle.chi_copies.proofs.Followed.{new_is_told, taken_is_told, taken_is_accepted, accepted_is_taken}
use Rattle.chi_copies.proofs.laws.calls.Goals as goal

pub returns-clause-starts : goal.returns-clause-starts
returns-clause-starts c = new_is_told

pub returns-clause-told : goal.returns-clause-told
returns-clause-told c = taken_is_told

pub returns-clause-accepted : goal.returns-clause-accepted
returns-clause-accepted c = taken_is_accepted

pub returns-clause-taken : goal.returns-clause-taken
returns-clause-taken c = accepted_is_taken
