use Rattle.chi_trace.proofs.FileLemmas.{file_again, file_read}
use Rattle.chi_trace.proofs.laws.traces_are_lines.Goals as goal

pub returns-clause-read : goal.returns-clause-read
returns-clause-read c = λ file flits e. file_read file flits e

pub returns-clause-again : goal.returns-clause-again
returns-clause-again c = λ file flits is. file_again file flits is
