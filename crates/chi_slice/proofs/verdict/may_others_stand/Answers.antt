-- One agent after the other is tested.
use Rattle.std.proofs.Common.{◌≢◌, refl, arith}
use Rattle.chi_slice.specs.Verdict.{MayStandBeside, state_in}
use Rattle.chi_slice.proofs.Below.{all_below, next_below, none_below}
use Rattle.chi_slice.proofs.verdict.may_others_stand.Goals as goal

pub loop-other-init : goal.loop-other-init
loop-other-init c = none_below (λ m. m ≢ c.args.agent → MayStandBeside (state_in c.args.states.now c.args.agent) (state_in c.args.states.now m))

pub loop-other-preserved : goal.loop-other-preserved
loop-other-preserved c = next_below (λ m. m ≢ c.args.agent → MayStandBeside (state_in c.args.states.now c.args.agent) (state_in c.args.states.now m)) c.loop-other.other c.loop-other.may c.may_other_stand-may.result _ c.loop-other.invariant c.may_other_stand-may.ensures refl

pub returns : goal.returns
returns c = all_below (λ m. m ≢ c.args.agent → MayStandBeside (state_in c.args.states.now c.args.agent) (state_in c.args.states.now m)) c.loop-other.other c.loop-other.may (omega (arith, c.loop-other-test.false, c.loop-other.auto.other-end)) c.loop-other.invariant
