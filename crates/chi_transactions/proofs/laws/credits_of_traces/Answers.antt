use Rattle.chi_transactions.proofs.CreditLaws.{counted, spent_once, granted_once}
use Rattle.chi_transactions.proofs.laws.credits_of_traces.Goals as goal

pub returns-clause-counted : goal.returns-clause-counted
returns-clause-counted c = counted

pub returns-clause-spent : goal.returns-clause-spent
returns-clause-spent c = spent_once

pub returns-clause-granted : goal.returns-clause-granted
returns-clause-granted c = granted_once
