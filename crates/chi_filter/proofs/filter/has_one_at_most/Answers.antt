-- One agent after the other is tested.
use Rattle.std.proofs.Common.{refl, arith}
use Rattle.chi_filter.specs.Filter.{AreApart}
use Rattle.chi_filter.proofs.Below.{all_below, next_below, none_below}
use Rattle.chi_filter.proofs.filter.has_one_at_most.Goals as goal

pub loop-agent-init : goal.loop-agent-init
loop-agent-init c = none_below (AreApart c.args.agents.now)

pub loop-agent-preserved : goal.loop-agent-preserved
loop-agent-preserved c = next_below (AreApart c.args.agents.now) c.loop-agent.agent c.loop-agent.alone c.is_alone-alone.result _ c.loop-agent.invariant c.is_alone-alone.ensures refl

pub returns : goal.returns
returns c = all_below (AreApart c.args.agents.now) c.loop-agent.agent c.loop-agent.alone (omega (arith, c.loop-agent-test.false, c.loop-agent.auto.agent-end)) c.loop-agent.invariant
