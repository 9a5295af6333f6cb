-- One agent after the other is tested.
use Rattle.std.proofs.Common.{refl, arith}
use Rattle.chi_line.specs.Keeping.{IsCleanAt}
use Rattle.chi_filter.proofs.Below.{all_below, next_below, none_below}
use Rattle.chi_line.proofs.line.CoherentLine.is_clean.Goals as goal

pub loop-agent-init : goal.loop-agent-init
loop-agent-init c = none_below (IsCleanAt c.args.self.now)

pub loop-agent-preserved : goal.loop-agent-preserved
loop-agent-preserved c = next_below (IsCleanAt c.args.self.now) c.loop-agent.agent c.loop-agent.clean c.is_agent_clean-clean.result _ c.loop-agent.invariant c.is_agent_clean-clean.ensures refl

pub returns : goal.returns
returns c = all_below (IsCleanAt c.args.self.now) c.loop-agent.agent c.loop-agent.clean (omega (arith, c.loop-agent-test.false, c.loop-agent.auto.agent-end)) c.loop-agent.invariant
