use Rattle.std.proofs.Common.{◌-◌, ◌<◌, ◌≤◌, length}
use Rattle.chi_lanes.proofs.FirstLemmas.{NoneBelow}
use Rattle.chi_lanes.proofs.places.first_blank.Given as goal

abbrev pub invariant-loop-at : goal.invariant-loop-at
invariant-loop-at l = record {
  within : l.at ≤ length l.text;
  blocks : 0 < l.at → 64 ≤ l.at;
  none : NoneBelow l.text l.at;
}

abbrev pub decreases-loop-at : goal.decreases-loop-at
decreases-loop-at l = length l.text - l.at
