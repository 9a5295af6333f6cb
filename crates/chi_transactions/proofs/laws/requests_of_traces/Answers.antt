use Rattle.chi_transactions.proofs.WaitLaws.{wait}
use Rattle.chi_transactions.proofs.laws.requests_of_traces.Goals as goal

pub returns : goal.returns
returns c = wait
