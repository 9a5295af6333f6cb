-- So far each is set.
use Rattle.std.proofs.Common.{◌≡◌, ℕ, ◌<◌, length}
use Rattle.chi_observer.specs.Rules.{awaits_moment}
use Rattle.chi_copies.specs.Lines.{due_at, shown_at}
use Rattle.chi_copies.proofs.timed.awaiting.Given as goal

abbrev pub invariant-loop-n : goal.invariant-loop-n
invariant-loop-n l = (length l.awaiting ≡ 32) × ((m : ℕ) → m < l.n → shown_at l.awaiting m ≡ awaits_moment (due_at l.due m))
