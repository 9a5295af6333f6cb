use Rattle.chi_script.proofs.CheckFileLemmas.{file_again, file_read}
use Rattle.chi_script.proofs.laws.check_files_are_lines.Goals as goal

pub returns-clause-read : goal.returns-clause-read
returns-clause-read c = λ file script e. file_read script.0 script.1 file e

pub returns-clause-again : goal.returns-clause-again
returns-clause-again c = λ file script is. file_again script.0 script.1 file is
