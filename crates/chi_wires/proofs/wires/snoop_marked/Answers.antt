use Rattle.std.proofs.Common.{◌<◌, length, ◌∙◌, arith}
use Rattle.std.proofs.lemmas.List.{set-get_or}
use Rattle.chi_wires.proofs.Marked.{looked_at}
use Rattle.chi_wires.proofs.wires.snoop_marked.Goals as goal
use Rattle.chi_wires.proofs.wires.snoop_marked.Goals.{then-agents-agent, else-agents-agent}

pub loop-agent-preserved : goal.loop-agent-preserved
loop-agent-preserved c =
    let kept = c.loop-agent.invariant in
    let lt : c.loop-agent.agent < length c.args.agents = omega (arith, kept.2, c.loop-agent-test.true) in
    let low : c.loop-agent.agent < length c.args.flits.now = omega (arith, kept.1, c.loop-agent-test.true) in
    elim c.if-agents-agent.branch [
      | then-agents-agent w ↦ (w.flits-is ∙ looked_at _ _ _ _ _ _ kept.0 w.if-agents-agent.true lt low, kept.1, kept.2)
      | else-agents-agent w ↦ (w.flits-is ∙ (set-get_or _ _ _ ∙ looked_at _ _ _ _ _ _ kept.0 w.if-agents-agent.false lt low), kept.1, kept.2)
    ]
