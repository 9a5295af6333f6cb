use Rattle.chi_transactions.proofs.IdLaws.{balanced, come_once}
use Rattle.chi_transactions.proofs.StandLaws.{stand}
use Rattle.chi_transactions.proofs.laws.ids_of_traces.Goals as goal

pub returns-clause-stand : goal.returns-clause-stand
returns-clause-stand c = stand

pub returns-clause-balanced : goal.returns-clause-balanced
returns-clause-balanced c = balanced

pub returns-clause-once : goal.returns-clause-once
returns-clause-once c = come_once
