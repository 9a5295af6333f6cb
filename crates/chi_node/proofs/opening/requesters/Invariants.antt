-- So far as many requesters as turns, and the ports of the others are left.
use Rattle.std.proofs.Common.{◌≡◌, ◌-◌}
use Rattle.chi_tracker.specs.Views.{new_ports}
use Rattle.chi_tracker.specs.Calls.{owners}
use Rattle.chi_node.specs.Parts.{opening_requesters}
use Rattle.chi_node.proofs.opening.requesters.Given as goal

abbrev pub invariant-loop-number : goal.invariant-loop-number
invariant-loop-number g l = record {
  made : l.requesters.items ≡ opening_requesters l.tracker.table l.tracker.shape l.number;
  left : l.ports.items ≡ owners l.tracker.table (new_ports l.tracker.shape l.number (l.agents - l.number));
}
