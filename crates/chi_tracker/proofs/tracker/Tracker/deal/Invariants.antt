use Rattle.std.proofs.Common.{◌≡◌, ◌-◌, []}
use Rattle.chi_tracker.specs.Views.{new_ports}
use Rattle.chi_tracker.specs.Calls.{owners}
use Rattle.chi_tracker.proofs.tracker.Tracker.deal.Given as goal

abbrev pub invariant-loop-number : goal.invariant-loop-number
invariant-loop-number g l = record {
  table : l.port_seat.table_id ≡ l.self.table;
  left : l.port_seat.me ≡ (record { ports = new_ports l.shape l.number (l.shape.agents - l.number); history = [] }, []);
  dealt : l.ports.items ≡ owners l.self.table (new_ports l.shape 0 l.number);
}
