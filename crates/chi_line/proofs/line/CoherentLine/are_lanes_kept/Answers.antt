-- One agent after the other is tested.
use Rattle.std.proofs.Common.{refl, arith}
use Rattle.chi_line.specs.Keeping.{IsLaneKept}
use Rattle.chi_filter.proofs.Below.{all_below, next_below, none_below}
use Rattle.chi_line.proofs.line.CoherentLine.are_lanes_kept.Goals as goal

pub loop-agent-init : goal.loop-agent-init
loop-agent-init c = none_below (IsLaneKept c.args.last.now c.args.self.now)

pub loop-agent-preserved : goal.loop-agent-preserved
loop-agent-preserved c = next_below (IsLaneKept c.args.last.now c.args.self.now) c.loop-agent.agent c.loop-agent.kept c.is_lane_kept-kept.result _ c.loop-agent.invariant c.is_lane_kept-kept.ensures refl

pub returns : goal.returns
returns c = all_below (IsLaneKept c.args.last.now c.args.self.now) c.loop-agent.agent c.loop-agent.kept (omega (arith, c.loop-agent-test.false, c.loop-agent.auto.agent-end)) c.loop-agent.invariant
