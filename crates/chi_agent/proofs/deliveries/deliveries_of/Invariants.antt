-- Those of the deliveries so far that are marked.
use Rattle.std.proofs.Common.{◌≡◌, ◌≤◌, Bool, length, map, take}
use Rattle.std.specs.List.{filter}
use Rattle.chi_agent.specs.declared.choice.Call.{Call}
use Rattle.chi_agent.specs.Choice.{deliveries}
use Rattle.chi_agent.proofs.deliveries.deliveries_of.Given as goal

abbrev pub invariant-loop-place : goal.invariant-loop-place
invariant-loop-place l = record {
  all : l.all ≡ deliveries;
  here : (f : Call → Bool) → l.marks ≡ map f deliveries → l.found.items ≡ filter f (take l.place deliveries);
  few : length l.found.items ≤ l.place;
}
