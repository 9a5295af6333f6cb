use Rattle.std.proofs.Common.{◌≡◌, ◌*◌, ◌≤◌}
use Rattle.chi_tracker.specs.Sums.{below, set_at}
use Rattle.chi_tracker.proofs.sets.rank.Given as goal

abbrev pub invariant-loop-part : goal.invariant-loop-part
invariant-loop-part l = (l.found ≡ below (set_at l.words) (64 * l.part)) × (l.found ≤ 64 * l.part)
