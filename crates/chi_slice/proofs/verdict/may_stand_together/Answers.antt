-- One agent after the other is tested.
use Rattle.std.proofs.Common.{refl, arith}
use Rattle.chi_slice.specs.Verdict.{MayOthersStand}
use Rattle.chi_slice.proofs.Below.{all_below, next_below, none_below}
use Rattle.chi_slice.proofs.verdict.may_stand_together.Goals as goal

pub loop-agent-init : goal.loop-agent-init
loop-agent-init c = none_below (MayOthersStand c.args.states.now)

pub loop-agent-preserved : goal.loop-agent-preserved
loop-agent-preserved c = next_below (MayOthersStand c.args.states.now) c.loop-agent.agent c.loop-agent.may c.may_others_stand-may.result _ c.loop-agent.invariant c.may_others_stand-may.ensures refl

pub returns : goal.returns
returns c = all_below (MayOthersStand c.args.states.now) c.loop-agent.agent c.loop-agent.may (omega (arith, c.loop-agent-test.false, c.loop-agent.auto.agent-end)) c.loop-agent.invariant
