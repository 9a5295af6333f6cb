-- Some copy of the agent's is filled by the home's own words.
use Rattle.chi_copies.specs.declared.tests.Test.TheVariants.{Shows}
use Rattle.chi_copies.proofs.Lines.{of_copies}
use Rattle.chi_copies.proofs.line.Line.is_shown.Goals as goal

pub returns : goal.returns
returns c = of_copies c.args.self.now c.args.flit.agent.0 (Shows c.args.flit.grant) c.may_of-may.result c.any.result c.may_of-may.ensures c.any.ensures
