-- One less.
use Rattle.std.proofs.Common.{rules, arith, ◌<◌, length}
use Rattle.chi_copies.proofs.ArrivingReceived.{acknowledged_is}
use Rattle.chi_copies.proofs.arriving.Arriving.acknowledge.Goals as goal

pub returns-clause-after : goal.returns-clause-after
returns-clause-after c = let low : c.from-at.result < length c.args.self.now.agents = search (rules, arith) in
    λ _. acknowledged_is c.args.self.now.agents c.args.self.now.duty c.args.self.now.home c.from-at.result c.acknowledged.result low c.args.agent c.from-at.ensures c.acknowledged.ensures
