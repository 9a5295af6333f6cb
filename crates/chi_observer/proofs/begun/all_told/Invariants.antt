-- So far each copy is known.
use Rattle.std.proofs.Common.{◌≡◌, ℕ, ◌<◌, length}
use Rattle.chi_observer.specs.Begun.{mark_of, mark_told}
use Rattle.chi_observer.proofs.begun.all_told.Given as goal

abbrev pub invariant-loop-n : goal.invariant-loop-n
invariant-loop-n l = (length l.told ≡ 32) × ((m : ℕ) → m < l.n → mark_of l.told m ≡ mark_told (mark_of l.agents m))
