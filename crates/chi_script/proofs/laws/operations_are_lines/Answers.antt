use Rattle.chi_script.proofs.OperationLemmas.{line_read, line_again}
use Rattle.chi_script.proofs.laws.operations_are_lines.Goals as goal

pub returns-clause-read : goal.returns-clause-read
returns-clause-read c = line_read

pub returns-clause-again : goal.returns-clause-again
returns-clause-again c = λ header limits line operation is. line_again header line operation limits is
