-- So far each is set.
use Rattle.std.proofs.Common.{◌≡◌, ℕ, ◌<◌, length}
use Rattle.chi_copies.specs.Copies.{Held}
use Rattle.chi_copies.specs.Observed.{shown_all}
use Rattle.chi_copies.specs.Sets.{members}
use Rattle.chi_copies.specs.Lines.{may_at}
use Rattle.chi_copies.proofs.line.each_shown.Given as goal

abbrev pub invariant-loop-n : goal.invariant-loop-n
invariant-loop-n l = (length l.shown ≡ 32) × ((m : ℕ) → m < l.n → (h : Held) → members (may_at l.shown m) h ≡ shown_all (members (may_at l.may m)) h)
