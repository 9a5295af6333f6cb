-- So far each is set.
use Rattle.std.proofs.Common.{◌≡◌, ℕ, ◌<◌, length}
use Rattle.chi_observe.specs.Judges.{last_of}
use Rattle.chi_observe.specs.LeftOver.{last_at}
use Rattle.chi_observe.proofs.left_over.last_behind.Given as goal

abbrev pub invariant-loop-n : goal.invariant-loop-n
invariant-loop-n l = (length l.behind ≡ 32) × ((m : ℕ) → m < l.n → last_of l.behind m ≡ last_at l.place l.count l.number (last_of l.last) m)
