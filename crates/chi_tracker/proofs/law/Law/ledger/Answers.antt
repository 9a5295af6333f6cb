use Rattle.chi_tracker.proofs.Exactly.{ledgers}
use Rattle.chi_tracker.proofs.law.Law.ledger.Goals as goal

pub returns : goal.returns
returns c = ledgers
