use Rattle.chi_log.proofs.LawLemmas.{none_wrong}
use Rattle.chi_log.proofs.laws.right_lines_have_no_wrong_column.Goals as goal

pub returns : goal.returns
returns c = none_wrong
