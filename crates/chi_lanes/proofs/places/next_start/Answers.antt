use Rattle.chi_lanes.proofs.EdgeLemmas.{begins_at}
use Rattle.chi_lanes.proofs.places.next_start.Goals as goal

pub returns-then-edges-ne0 : goal.returns-then-edges-ne0
returns-then-edges-ne0 c =
    begins_at c.args.line.now c.args.at c.args.edges c.lowest.result (c.requires c.if-edges-ne0.true) c.lowest.ensures.bound c.lowest.ensures.set c.lowest.ensures.below
