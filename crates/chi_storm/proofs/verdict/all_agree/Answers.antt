-- One slice more was looked at.
use Rattle.chi_storm.proofs.Seen.{next_seen}
use Rattle.chi_storm.proofs.verdict.all_agree.Goals as goal

pub loop-index-preserved : goal.loop-index-preserved
loop-index-preserved g c = next_seen c.args.node.now.config c.args.requesters.now c.loop-index.index c.loop-index.agree c.agrees_at-agree.result c.loop-index.invariant c.agrees_at-agree.ensures
