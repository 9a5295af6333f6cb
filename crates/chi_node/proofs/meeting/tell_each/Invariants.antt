-- So far each requester is as it was, and the witness was told of as many as turns.
use Rattle.std.proofs.Common.{◌≡◌}
use Rattle.chi_tracker.proofs.Telling.{IsTelling}
use Rattle.chi_node.specs.Requester.{owner}
use Rattle.chi_node.proofs.meeting.tell_each.Given as goal

abbrev pub invariant-loop-index : goal.invariant-loop-index
invariant-loop-index g l = record {
  same : l.requesters ≡ l.fn.requesters;
  table : l.witness.table ≡ l.tracker.table;
  told : IsTelling owner (λ r. r.port.who ≡ r.number) l.fn.requesters l.fn.witness.history l.witness.history l.index;
}
