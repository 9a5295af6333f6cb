-- So far each is set.
use Rattle.std.proofs.Common.{◌≡◌, ℕ, ◌<◌, length}
use Rattle.std.specs.Prelude.{true, ◌&&◌, ◌==◌}
use Rattle.chi_observer.specs.Lines.{shown_of}
use Rattle.chi_observer.specs.Arrivals.{arriving_of, is_sure}
use Rattle.chi_observer.proofs.arrivals.each_sure.Given as goal

abbrev pub invariant-loop-n : goal.invariant-loop-n
invariant-loop-n l = (length l.sure ≡ 32) × ((m : ℕ) → m < l.n → shown_of l.sure m ≡ (shown_of l.shown m && is_sure true (shown_of l.was m) (m == l.at) (arriving_of l.agents m).since (arriving_of l.agents l.at).asked))
