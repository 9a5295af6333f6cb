-- So far as many threads were started as turns, and the other agents are left.
use Rattle.std.proofs.Common.{◌≡◌, ◌≤◌, ◌++◌, All, map}
use Rattle.std.specs.Prelude.{vec_len, vec_capacity}
use Rattle.chi_node.specs.Node.{IsOwn}
use Rattle.chi_agent.specs.Script.{operations_of, writer_of, AreFresh}
use Rattle.chi_agent.specs.Ended.{requester_number, outbox_of}
use Rattle.chi_agent.specs.Runs.{begun, starts}
use Rattle.chi_agent.proofs.threads.start_all.Given as goal

abbrev pub invariant-loop : goal.invariant-loop
invariant-loop g l = record {
  begun : map (λ h. begun h.promise) l.handles.items ++ starts l.fn.node.config l.fn.plan.seed l.fn.plan.turns l.requesters.items (operations_of l.scripts.items) ≡ starts l.fn.node.config l.fn.plan.seed l.fn.plan.turns l.fn.requesters.items (operations_of l.fn.scripts.items);
  own : All (IsOwn l.fn.node) l.requesters.items;
  fresh : AreFresh l.fn.tallies l.scripts.items;
  writers : map writer_of l.scripts.items ≡ map requester_number l.requesters.items;
  outboxes : l.outboxes.items ≡ map (outbox_of l.fn.inbox.channel) l.requesters.items;
  channels : All (λ h. h.promise.seat.value.outbox.channel ≡ l.fn.inbox.channel) l.handles.items;
  made : vec_len l.handles ≡ l.counter;
  room : l.fn.plan.agents ≤ vec_capacity l.handles;
}
