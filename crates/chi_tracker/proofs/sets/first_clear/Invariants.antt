use Rattle.std.proofs.Common.{◌≡◌, ℕ, ◌*◌, ◌<◌, ◌≤◌}
use Rattle.std.specs.Int.{bit_at}
use Rattle.chi_tracker.proofs.sets.first_clear.Given as goal

abbrev pub invariant-loop-place : goal.invariant-loop-place
invariant-loop-place l = (i : ℕ) → 8 * l.ty ≤ i → i < l.place → bit_at l.word i ≡ 1
