-- One agent after the other is looked at.
use Rattle.std.proofs.Common.{refl, arith}
use Rattle.chi_slice.proofs.Verdicts.{agents_in, both_ways, judged, next_walked, of_view}
use Rattle.chi_slice.proofs.verdict.is_coherent.Goals as goal

pub loop-agent-preserved : goal.loop-agent-preserved
loop-agent-preserved c =
    next_walked (agents_in c.args.view.now) c.args.view.now.last c.loop-agent.states _ c.loop-agent.backed c.loop-agent.clean _ _ c.is_backed-backed.result c.is_clean-clean.result c.loop-agent.agent _ c.loop-agent.invariant
    (record { low = c.loop-agent-test.true; state_is = refl; backed_is = c.is_backed-backed.ensures; clean_is = c.is_clean-clean.ensures }) refl refl refl

pub returns : goal.returns
returns c =
    let view = c.args.view.now in
    both_ways _ _ _ c.is_passed.ensures
    (both_ways _ _ _ (judged (agents_in view) view.memory view.last c.loop-agent.states c.loop-agent.backed c.loop-agent.clean c.loop-agent.agent (omega (arith, c.loop-agent-test.false, c.loop-agent.auto.agent-end)) c.loop-agent.invariant) (of_view view))
