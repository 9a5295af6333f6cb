-- So far each is set.
use Rattle.std.proofs.Common.{◌≡◌, ℕ, ◌<◌, length}
use Rattle.std.specs.Prelude.{if◌then◌else◌}
use Rattle.chi_observer.specs.declared.flits.Due.TheVariants.{Nothing}
use Rattle.chi_copies.specs.Begun.{left_over}
use Rattle.chi_copies.specs.BegunLines.{dues_of, flags_of}
use Rattle.chi_copies.proofs.begun.due_before.Given as goal

abbrev pub invariant-loop-n : goal.invariant-loop-n
invariant-loop-n l = (length l.due ≡ 32) × ((m : ℕ) → m < l.n → dues_of l.due m ≡ (if flags_of l.asked m then left_over else Nothing))
