use Rattle.std.proofs.Common.{◌≡◌, ℕ, ◌*◌, ◌<◌, ◌≤◌, slice_index}
use Rattle.chi_tracker.specs.Totals.{owed_all}
use Rattle.chi_tracker.proofs.tally.owed_by_all.Given as goal

abbrev pub invariant-loop-agent : goal.invariant-loop-agent
invariant-loop-agent l = ((t : ℕ) → t < 4 → slice_index l.owed t ≡ owed_all l.words t l.agent) × ((t : ℕ) → t < 4 → slice_index l.owed t ≤ 8 * l.agent)
