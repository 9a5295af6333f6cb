-- So far each is behind it, and the others are as they were.
use Rattle.std.proofs.Common.{◌≡◌, ℕ, ◌<◌, ◌≤◌, length}
use Rattle.std.specs.Prelude.{◌==◌}
use Rattle.chi_copies.specs.ArrivingLines.{Beheld, agent_at}
use Rattle.chi_copies.proofs.arriving.behold.Given as goal

abbrev pub invariant-loop-n : goal.invariant-loop-n
invariant-loop-n l = (length l.agents ≡ 32) × ((m : ℕ) → m < l.n → Beheld (m == l.agent) l.step (agent_at l.fn.agents m) (agent_at l.agents m)) × ((m : ℕ) → l.n ≤ m → agent_at l.agents m ≡ agent_at l.fn.agents m)
