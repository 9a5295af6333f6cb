use Rattle.chi_issue_b.proofs.Tables.{resp_words}
use Rattle.chi_issue_b.proofs.laws.resp_words_differ.Goals as goal

pub returns : goal.returns
returns c = resp_words
