use Rattle.chi_trace.proofs.LineLemmas.{line_again, line_read}
use Rattle.chi_trace.proofs.laws.lines_are_flits.Goals as goal

pub returns-clause-read : goal.returns-clause-read
returns-clause-read c = λ n line seen e. line_read n line seen e

pub returns-clause-again : goal.returns-clause-again
returns-clause-again c = λ n line seen is. line_again n seen line is
