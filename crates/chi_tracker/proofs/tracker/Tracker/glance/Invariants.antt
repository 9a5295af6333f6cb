use Rattle.std.proofs.Common.{◌≡◌, length}
use Rattle.chi_tracker.proofs.tracker.Tracker.glance.Given as goal

abbrev pub invariant-loop-i : goal.invariant-loop-i
invariant-loop-i g l = length l.words ≡ 44
