use Rattle.chi_issue_b.proofs.Tables.{numbered, own_numbers}
use Rattle.chi_issue_b.proofs.laws.numbers_differ.Goals as goal

pub returns : goal.returns
returns c = record { own = numbered; each = own_numbers }
