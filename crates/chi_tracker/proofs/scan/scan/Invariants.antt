use Rattle.std.proofs.Common.{◌≡◌, ◌-◌}
use Rattle.chi_tracker.specs.Steps.{shown, solo}
use Rattle.chi_tracker.specs.History.{IsAfter, port_in}
use Rattle.chi_tracker.specs.Calls.{owner_in, port_after_scan}
use Rattle.chi_tracker.specs.Conduct.{Does, FoundTaken}
use Rattle.chi_tracker.proofs.scan.scan.Given as goal

abbrev pub invariant-loop-entry : goal.invariant-loop-entry
invariant-loop-entry l = record {
  table : l.port_seat.table_id ≡ l.fn.port_seat.table_id;
  view : shown l.port_seat.me ≡ solo (port_after_scan l.ty (l.entry - l.first) (port_in l.fn.port_seat.me));
  acts : Does (owner_in l.fn.port_seat) (FoundTaken l.ty l.first (l.entry - l.first)) (owner_in l.port_seat);
  after : IsAfter l.port_seat.me.0.history (port_in l.port_seat.me);
}
