use Rattle.chi_script.proofs.StormTextLemmas.{storm_read, storm_again}
use Rattle.chi_script.proofs.laws.storms_are_files.Goals as goal

pub returns-clause-read : goal.returns-clause-read
returns-clause-read c = λ file storm e. storm_read storm.0 storm.1 file e

pub returns-clause-again : goal.returns-clause-again
returns-clause-again c = λ file storm is. storm_again storm.0 storm.1 file is
