use Rattle.chi_transactions.proofs.IdLaws.{among_all, among_both, among_either, among_without}
use Rattle.chi_transactions.proofs.laws.parts_are_sets.Goals as goal

pub returns-clause-either : goal.returns-clause-either
returns-clause-either c = among_either

pub returns-clause-both : goal.returns-clause-both
returns-clause-both c = among_both

pub returns-clause-without : goal.returns-clause-without
returns-clause-without c = among_without

pub returns-clause-has : goal.returns-clause-has
returns-clause-has c = among_all
