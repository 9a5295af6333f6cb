-- The lane is tested clause by clause.
use Rattle.chi_line.specs.Keeping.{lane_in}
use Rattle.chi_line.proofs.Keeping.{lane_tested}
use Rattle.chi_line.proofs.line.CoherentLine.is_lane_kept.Goals as goal

pub returns : goal.returns
returns c =
    let s = c.args.self.now in
    let home = c.home_terms-home in
    lane_tested s c.args.last.now c.args.agent home.result.serving home.result.unique home.result.owner home.result.last (lane_in c.agent_lane.result) c.is_kept.result
    home.ensures.serving home.ensures.unique home.ensures.owner home.ensures.last c.agent_lane.ensures c.is_kept.ensures
