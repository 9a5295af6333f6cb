use Rattle.std.proofs.Common.{◌≡◌, ℕ, ◌<◌, ◌≤◌}
use Rattle.chi_tracker.specs.Sums.{set_at}
use Rattle.chi_tracker.proofs.sets.lowest.Given as goal

abbrev pub invariant-loop-entry : goal.invariant-loop-entry
invariant-loop-entry l = (i : ℕ) → l.start ≤ i → i < l.entry → set_at l.words i ≡ 0
