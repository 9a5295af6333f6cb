use Rattle.chi_script.proofs.NumberLemmas.{number_read, number_again}
use Rattle.chi_script.proofs.laws.numbers_are_decimal.Goals as goal

pub returns-clause-read : goal.returns-clause-read
returns-clause-read c = number_read

pub returns-clause-again : goal.returns-clause-again
returns-clause-again c = λ word n is. number_again n word is
