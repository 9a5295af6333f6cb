-- One agent after the other.
use Rattle.std.proofs.Common.{rules, arith, ◌≡◌, ◌<◌, ℕ, length, slice_set, subst}
use Rattle.std.specs.Prelude.{◌==◌}
use Rattle.chi_copies.specs.ArrivingLines.{Beheld, agent_at}
use Rattle.chi_copies.proofs.ArrivingAgents.{all_agents, more_agents, nobody_beheld, rest_agents}
use Rattle.chi_copies.proofs.arriving.behold.Goals as goal

pub loop-n-preserved : goal.loop-n-preserved
loop-n-preserved c =
    let n = c.loop-n.n in
    let low : n < 32 = search (rules, arith, c.loop-n-test.true) in
    let whole : length (slice_set c.loop-n.agents n c.beheld.result) ≡ 32 = search (rules, arith, c.loop-n.invariant.0) in (
      whole,
      more_agents (λ m. Beheld (m == c.args.agent) c.args.step) c.args.agents.now c.loop-n.agents n c.beheld.result c.loop-n.invariant.0 low c.loop-n.invariant.1 c.loop-n.invariant.2
          (subst (λ (k : ℕ). Beheld (n == k) c.args.step (agent_at c.loop-n.agents n) c.beheld.result) c.from.ensures c.beheld.ensures),
      rest_agents (λ m. Beheld (m == c.args.agent) c.args.step) c.args.agents.now c.loop-n.agents n c.beheld.result c.loop-n.invariant.0 c.loop-n.invariant.2,
    )

pub returns : goal.returns
returns c = let all : c.loop-n.n ≡ 32 = omega (arith, c.loop-n-test.false, c.loop-n.auto.n-end) in
    all_agents (λ m. Beheld (m == c.args.agent) c.args.step) c.args.agents.now c.loop-n.agents c.loop-n.n all c.told-agents c.loop-n.invariant.1 c.loop-n.invariant.2 (λ m. nobody_beheld (m == c.args.agent) c.args.step)
