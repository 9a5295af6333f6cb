use Rattle.std.proofs.Common.{◌*◌, ◌-◌}
use Rattle.chi_tracker.specs.Calls.{owner_in}
use Rattle.chi_tracker.specs.Conduct.{Does, FoundClear}
use Rattle.chi_tracker.proofs.Sweeps.{IsSettling}
use Rattle.chi_tracker.proofs.sweep.settle_places.Given as goal

abbrev pub invariant-loop-place : goal.invariant-loop-place
invariant-loop-place l = record {
  view : IsSettling l.fn.port_seat l.port_seat l.ty l.word l.place;
  acts : Does (owner_in l.fn.port_seat) (FoundClear l.ty l.entry l.agent l.word (l.place - 8 * l.ty)) (owner_in l.port_seat);
}
