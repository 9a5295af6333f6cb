-- So far each is set.
use Rattle.std.proofs.Common.{◌≡◌, ℕ, ◌<◌, length}
use Rattle.std.specs.Prelude.{if◌then◌else◌}
use Rattle.chi_copies.specs.Copies.{Held, image}
use Rattle.chi_copies.specs.Rules.{slips}
use Rattle.chi_copies.specs.BegunLines.{dues_of, sets_of, sure_of}
use Rattle.chi_copies.proofs.begun_moments.may_then.Given as goal

abbrev pub invariant-loop-n : goal.invariant-loop-n
invariant-loop-n l = (length l.settled ≡ 32) × ((m : ℕ) → m < l.n → (h : Held) → sets_of l.settled m h ≡ (if sure_of l.sure m then image (slips l.stores (dues_of l.due m)) (sets_of l.may m) else sets_of l.may m) h)
