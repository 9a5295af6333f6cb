-- So far the requesters of as many results as turns, and the other results are left.
use Rattle.std.proofs.Common.{◌≡◌, ◌+◌, ◌++◌, ◌≤◌, length, map}
use Rattle.chi_agent.specs.Ended.{requester_of}
use Rattle.chi_agent.proofs.ended.requesters_of.Given as goal

abbrev pub invariant-loop-number : goal.invariant-loop-number
invariant-loop-number l = record {
  same : map requester_of l.fn.results.items ≡ l.requesters.items ++ map requester_of l.results.items;
  left : length l.results.items + l.number ≡ l.count;
  made : length l.requesters.items ≡ l.number;
  few : l.count ≤ 8;
}
