use Rattle.std.proofs.Common.{rules, arith, ◌<◌, length}
use Rattle.chi_observer.proofs.Received.{due_set}
use Rattle.chi_observer.proofs.arrivals.set_due.Goals as goal

pub returns : goal.returns
returns c =
    let low : c.args.at < length c.args.seen.now.agents = search (rules, arith) in
    due_set c.args.seen.now c.args.at c.args.due low
