-- The slice that was seen is the node's.
use Rattle.chi_storm.proofs.Seen.{own_seen}
use Rattle.chi_storm.proofs.verdict.agrees_here.Goals as goal

pub returns : goal.returns
returns g c = own_seen c.args.config.now c.args.requesters.now c.args.index c.args.slice.now c.agree_with.result c.requires c.agree_with.ensures
