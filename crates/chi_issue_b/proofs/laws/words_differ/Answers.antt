use Rattle.chi_issue_b.proofs.Tables.{named, own_words}
use Rattle.chi_issue_b.proofs.laws.words_differ.Goals as goal

pub returns : goal.returns
returns c = record { own = named; each = own_words }
