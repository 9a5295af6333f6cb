use Rattle.std.proofs.Common.{arith}
use Rattle.chi_tracker.proofs.Seats.{enters}
use Rattle.chi_tracker.proofs.tracker.Tracker.witness.Goals as goal

pub load_new_seat-port_seat-requires : goal.load_new_seat-port_seat-requires
load_new_seat-port_seat-requires g c = (omega (arith, c.self.invariant.0), enters c.self.inside.table.shared.key c.self.inside.table.shared.table_id.slots)
