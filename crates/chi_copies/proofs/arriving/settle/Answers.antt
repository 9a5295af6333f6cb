-- One agent after the other.
use Rattle.std.proofs.Common.{rules, arith, ◌≡◌, ◌<◌, length, slice_set}
use Rattle.chi_copies.specs.ArrivingLines.{Settles}
use Rattle.chi_copies.proofs.ArrivingAgents.{all_agents, more_agents, nobody_settles, rest_agents}
use Rattle.chi_copies.proofs.arriving.settle.Goals as goal

pub loop-n-preserved : goal.loop-n-preserved
loop-n-preserved c =
    let n = c.loop-n.n in
    let low : n < 32 = search (rules, arith, c.loop-n-test.true) in
    let whole : length (slice_set c.loop-n.agents n c.settled.result) ≡ 32 = search (rules, arith, c.loop-n.invariant.0) in (
      whole,
      more_agents (λ _. Settles) c.args.agents.now c.loop-n.agents n c.settled.result c.loop-n.invariant.0 low c.loop-n.invariant.1 c.loop-n.invariant.2 c.settled.ensures,
      rest_agents (λ _. Settles) c.args.agents.now c.loop-n.agents n c.settled.result c.loop-n.invariant.0 c.loop-n.invariant.2,
    )

pub returns : goal.returns
returns c = let all : c.loop-n.n ≡ 32 = omega (arith, c.loop-n-test.false, c.loop-n.auto.n-end) in
    all_agents (λ _. Settles) c.args.agents.now c.loop-n.agents c.loop-n.n all c.told-agents c.loop-n.invariant.1 c.loop-n.invariant.2 (λ _. nobody_settles)
