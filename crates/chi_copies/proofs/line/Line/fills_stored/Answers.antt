-- Some copy of the agent's is so.
use Rattle.chi_copies.specs.declared.tests.Test.TheVariants.{FillsStored}
use Rattle.chi_copies.proofs.Lines.{of_copies}
use Rattle.chi_copies.proofs.line.Line.fills_stored.Goals as goal

pub returns : goal.returns
returns c = of_copies c.args.self.now c.args.flit.agent.0 (FillsStored c.args.flit.grant) c.may_of-may.result c.any.result c.may_of-may.ensures c.any.ensures
