-- The requesters stay the node's own.
use Rattle.chi_node.specs.Node.{IsOwn}
use Rattle.chi_agent_tests.proofs.beside.play.Given as goal

abbrev pub invariant-loop : goal.invariant-loop
invariant-loop g l = record {
  first : IsOwn l.fn.node l.first.player.requester;
  second : IsOwn l.fn.node l.second.player.requester;
}
