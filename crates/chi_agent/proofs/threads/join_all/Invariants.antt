-- So far as many results came back as turns, and the other threads are out.
use Rattle.std.proofs.Common.{◌≡◌, ◌+◌, ◌≤◌, [], All, length, map}
use Rattle.std.specs.Prelude.{vec_len}
use Rattle.chi_agent.specs.Runs.{begun}
use Rattle.chi_agent.specs.Ended.{report_of}
use Rattle.chi_agent.proofs.Left.{LeftSoFar}
use Rattle.chi_agent.proofs.threads.join_all.Given as goal

abbrev pub invariant-loop : goal.invariant-loop
invariant-loop g l = record {
  leave : LeftSoFar (map (λ h. begun h.promise) l.fn.handles.items) (map (λ h. begun h.promise) l.handles.items) l.results.items;
  channels : All (λ h. h.promise.seat.value.outbox.channel ≡ l.fn.inbox.channel) l.handles.items;
  channel : l.inbox.channel ≡ l.fn.inbox.channel;
  told_of : l.inbox.told ≡ map report_of l.results.items;
  unread : l.inbox.got ≡ [];
  left : vec_len l.handles + l.counter ≡ l.count;
  made : length l.results.items ≡ l.counter;
  few : l.count ≤ 8;
}
