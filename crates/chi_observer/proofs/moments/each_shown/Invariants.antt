-- So far each is set.
use Rattle.std.proofs.Common.{◌≡◌, ℕ, ◌<◌, length}
use Rattle.chi_observer.specs.Lines.{shown_of, shown_here}
use Rattle.chi_observer.proofs.moments.each_shown.Given as goal

abbrev pub invariant-loop-n : goal.invariant-loop-n
invariant-loop-n l = (length l.behind ≡ 32) × ((m : ℕ) → m < l.n → shown_of l.behind m ≡ shown_here l.stores l.agents l.current l.flit (shown_of l.shown m) m)
