-- So far each is set.
use Rattle.std.proofs.Common.{◌≡◌, ℕ, ◌<◌, length}
use Rattle.chi_copies.specs.Lines.{shown_at, shown_here}
use Rattle.chi_copies.proofs.timed.shown_behind.Given as goal

abbrev pub invariant-loop-n : goal.invariant-loop-n
invariant-loop-n l = (length l.behind ≡ 32) × ((m : ℕ) → m < l.n → shown_at l.behind m ≡ shown_here l.due l.may l.issuer (shown_at l.shown m) m)
