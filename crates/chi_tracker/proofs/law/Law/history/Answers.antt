use Rattle.chi_tracker.proofs.Histories.{rule_after}
use Rattle.chi_tracker.proofs.Seats.{reached_rule}
use Rattle.chi_tracker.proofs.law.Law.history.Goals as goal

pub returns-clause-made : goal.returns-clause-made
returns-clause-made c = rule_after

pub returns-clause-kept : goal.returns-clause-kept
returns-clause-kept c = reached_rule
