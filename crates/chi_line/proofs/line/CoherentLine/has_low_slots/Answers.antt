-- One agent after the other is tested.
use Rattle.std.proofs.Common.{refl, arith}
use Rattle.chi_line.specs.Keeping.{HasLowSlotsOf}
use Rattle.chi_filter.proofs.Below.{all_below, next_below, none_below}
use Rattle.chi_line.proofs.line.CoherentLine.has_low_slots.Goals as goal

pub loop-agent-init : goal.loop-agent-init
loop-agent-init c = none_below (HasLowSlotsOf c.args.self.now)

pub loop-agent-preserved : goal.loop-agent-preserved
loop-agent-preserved c = next_below (HasLowSlotsOf c.args.self.now) c.loop-agent.agent c.loop-agent.low c.has_low_slots_of-low.result _ c.loop-agent.invariant c.has_low_slots_of-low.ensures refl

pub returns : goal.returns
returns c = all_below (HasLowSlotsOf c.args.self.now) c.loop-agent.agent c.loop-agent.low (omega (arith, c.loop-agent-test.false, c.loop-agent.auto.agent-end)) c.loop-agent.invariant
