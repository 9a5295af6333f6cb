-- Each agent.
use Rattle.chi_copies.proofs.ArrivingReceived.{settled_is}
use Rattle.chi_copies.proofs.arriving.Arriving.settle.Goals as goal

pub returns : goal.returns
returns c = settled_is c.args.self.now.agents c.settle.new.agents c.args.self.now.duty c.args.self.now.home c.settle.ensures
