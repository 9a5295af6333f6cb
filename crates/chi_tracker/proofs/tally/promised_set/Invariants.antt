use Rattle.std.proofs.Common.{◌≡◌, ℕ, ◌<◌}
use Rattle.chi_tracker.specs.Sums.{set_at}
use Rattle.chi_tracker.specs.Totals.{is_promised}
use Rattle.chi_tracker.proofs.tally.promised_set.Given as goal

abbrev pub invariant-loop-agent : goal.invariant-loop-agent
invariant-loop-agent l = (e : ℕ) → e < 256 → set_at l.set e ≡ is_promised l.words l.agent e
