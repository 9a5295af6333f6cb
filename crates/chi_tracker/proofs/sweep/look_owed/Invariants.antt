use Rattle.std.proofs.Common.{◌≡◌, ◌<◌}
use Rattle.chi_tracker.specs.Steps.{shown, solo}
use Rattle.chi_tracker.specs.History.{IsAfter, port_in}
use Rattle.chi_tracker.specs.Calls.{owner_in}
use Rattle.chi_tracker.proofs.Sweeps.{swept_by}
use Rattle.chi_tracker.specs.Conduct.{Does, LookedInVain}
use Rattle.chi_tracker.proofs.sweep.look_owed.Given as goal

abbrev pub invariant-loop-agent : goal.invariant-loop-agent
invariant-loop-agent l = record {
  table : l.port_seat.table_id ≡ l.fn.port_seat.table_id;
  view : shown l.port_seat.me ≡ solo (swept_by l.ty l.agent (port_in l.fn.port_seat.me));
  acts : Does (owner_in l.fn.port_seat) (LookedInVain l.ty l.agent) (owner_in l.port_seat);
  after : 0 < l.agent → IsAfter l.port_seat.me.0.history (port_in l.port_seat.me);
}
