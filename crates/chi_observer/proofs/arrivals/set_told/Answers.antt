use Rattle.std.proofs.Common.{rules, arith, ◌<◌, length}
use Rattle.chi_observer.proofs.Received.{told_set}
use Rattle.chi_observer.proofs.arrivals.set_told.Goals as goal

pub returns : goal.returns
returns c =
    let low : c.args.at < length c.args.seen.now.agents = search (rules, arith) in
    told_set c.args.seen.now c.args.at c.args.told low
