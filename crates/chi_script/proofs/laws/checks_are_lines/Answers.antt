use Rattle.chi_script.proofs.CheckLemmas.{check_again, check_read}
use Rattle.chi_script.proofs.laws.checks_are_lines.Goals as goal

pub returns-clause-read : goal.returns-clause-read
returns-clause-read c = check_read

pub returns-clause-again : goal.returns-clause-again
returns-clause-again c = check_again
