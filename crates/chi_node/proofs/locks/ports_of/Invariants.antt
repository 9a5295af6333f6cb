-- So far the ports of as many requesters as turns, and the other requesters are left.
use Rattle.std.proofs.Common.{◌≡◌, ◌+◌, ◌++◌, ◌≤◌, length}
use Rattle.chi_node.specs.Node.{owners_of}
use Rattle.chi_node.proofs.locks.ports_of.Given as goal

abbrev pub invariant-loop-number : goal.invariant-loop-number
invariant-loop-number l = record {
  same : owners_of l.fn.requesters.items ≡ l.ports.items ++ owners_of l.requesters.items;
  left : length l.requesters.items + l.number ≡ l.count;
  made : length l.ports.items ≡ l.number;
  few : l.count ≤ 8;
}
