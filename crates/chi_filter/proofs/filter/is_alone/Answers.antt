-- One agent after the other is tested.
use Rattle.std.proofs.Common.{refl, arith}
use Rattle.chi_filter.specs.Filter.{IsAlone}
use Rattle.chi_filter.proofs.Below.{all_below, next_below, none_below}
use Rattle.chi_filter.proofs.filter.is_alone.Goals as goal

pub loop-other-init : goal.loop-other-init
loop-other-init c = none_below (IsAlone c.args.agents.now c.args.agent)

pub loop-other-preserved : goal.loop-other-preserved
loop-other-preserved c = next_below (IsAlone c.args.agents.now c.args.agent) c.loop-other.other c.loop-other.alone c.is_alone_beside-alone.result _ c.loop-other.invariant c.is_alone_beside-alone.ensures refl

pub returns : goal.returns
returns c = all_below (IsAlone c.args.agents.now c.args.agent) c.loop-other.other c.loop-other.alone (omega (arith, c.loop-other-test.false, c.loop-other.auto.other-end)) c.loop-other.invariant
