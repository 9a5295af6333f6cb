use Rattle.chi_observer.proofs.DataInBeats.{any_taken, apart, free_taken, known_taken}
use Rattle.chi_observer.proofs.wanted.data_in_beats.Goals as goal

pub returns-clause-apart : goal.returns-clause-apart
returns-clause-apart c = apart

pub returns-clause-any : goal.returns-clause-any
returns-clause-any c = any_taken

pub returns-clause-known : goal.returns-clause-known
returns-clause-known c = known_taken

pub returns-clause-free : goal.returns-clause-free
returns-clause-free c = free_taken
