-- So far each has one that stays.
use Rattle.std.proofs.Common.{◌≡◌}
use Rattle.std.specs.Prelude.{◌||◌, ◌==◌, not}
use Rattle.chi_copies.specs.Worlds.{all_below}
use Rattle.chi_copies.specs.Arriving.{any_of, comes}
use Rattle.chi_copies.specs.ArrivingLines.{agent_at, may_of}
use Rattle.chi_copies.proofs.arriving.is_elsewhere.Given as goal

abbrev pub invariant-loop-n : goal.invariant-loop-n
invariant-loop-n l = l.all ≡ all_below l.n (λ m. m == l.agent || any_of (may_of (agent_at l.agents m)) (λ k. not (comes k)))
