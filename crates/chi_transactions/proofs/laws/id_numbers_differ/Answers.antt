use Rattle.chi_transactions.proofs.Numbers.{read_back, same_ids}
use Rattle.chi_transactions.proofs.laws.id_numbers_differ.Goals as goal

pub returns-clause-told : goal.returns-clause-told
returns-clause-told c = read_back

pub returns-clause-differ : goal.returns-clause-differ
returns-clause-differ c = same_ids
