use Rattle.std.proofs.Common.{arith}
use Rattle.chi_tracker.proofs.Tallies.{ones_run, run_few}
use Rattle.chi_tracker.proofs.sets.ones_from.Goals as goal

pub returns-clause-is : goal.returns-clause-is
returns-clause-is c = ones_run c.args.word c.args.first c.args.count (omega arith)

pub returns-clause-few : goal.returns-clause-few
returns-clause-few c = run_few c.args.word c.args.first c.args.count (omega arith)
