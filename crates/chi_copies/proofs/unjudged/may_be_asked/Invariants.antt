-- So far each is set.
use Rattle.std.proofs.Common.{◌≡◌, ℕ, ◌<◌, length}
use Rattle.std.specs.Prelude.{◌||◌}
use Rattle.chi_observer.specs.Rules.{is_resending}
use Rattle.chi_copies.specs.BegunLines.{dues_of, flags_of}
use Rattle.chi_copies.proofs.unjudged.may_be_asked.Given as goal

abbrev pub invariant-loop-n : goal.invariant-loop-n
invariant-loop-n l = (length l.asked_then ≡ 32) × ((m : ℕ) → m < l.n → flags_of l.asked_then m ≡ (flags_of l.asked m || is_resending (dues_of l.due m)))
