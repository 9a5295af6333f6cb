-- The requesters that are left are the node's own.
use Rattle.std.proofs.Common.{◌≡◌, ◌+◌, All, length}
use Rattle.chi_node.specs.Node.{IsOwn}
use Rattle.chi_agent_tests.proofs.guests.guests_of.Given as goal

abbrev pub invariant-loop : goal.invariant-loop
invariant-loop g l = record {
  own : All (IsOwn l.fn.node) l.requesters.items;
  left : length l.requesters.items + l.counter ≡ l.count;
}
