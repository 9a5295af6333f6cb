use Rattle.chi_trace.proofs.HexLemmas.{hex_again, hex_read}
use Rattle.chi_trace.proofs.laws.numbers_are_hexadecimal.Goals as goal

pub returns-clause-read : goal.returns-clause-read
returns-clause-read c = λ most n word e. hex_read most n word e

pub returns-clause-again : goal.returns-clause-again
returns-clause-again c = λ most n word is. hex_again most n word is
