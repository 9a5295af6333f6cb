-- So far each port is as it was, and the witness was told of as many as turns.
use Rattle.std.proofs.Common.{◌≡◌}
use Rattle.chi_tracker.proofs.Telling.{IsTelling}
use Rattle.chi_tracker.proofs.witness.tell_each.Given as goal

abbrev pub invariant-loop-index : goal.invariant-loop-index
invariant-loop-index g l = record {
  same : l.ports ≡ l.fn.ports;
  table : l.witness.table ≡ l.tracker.table;
  told : IsTelling (λ o. o) (λ o. Unit {0}) l.fn.ports l.fn.witness.history l.witness.history l.index;
}
