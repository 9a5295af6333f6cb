use Rattle.chi_script.proofs.HeaderLemmas.{header_line, header_line_again}
use Rattle.chi_script.proofs.laws.headers_are_lines.Goals as goal

pub returns-clause-read : goal.returns-clause-read
returns-clause-read c = header_line

pub returns-clause-again : goal.returns-clause-again
returns-clause-again c = header_line_again
