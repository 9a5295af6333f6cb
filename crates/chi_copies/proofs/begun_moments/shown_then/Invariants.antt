-- So far each is set.
use Rattle.std.proofs.Common.{◌≡◌, ℕ, ◌<◌, length, slice_index_or}
use Rattle.std.specs.Prelude.{true}
use Rattle.chi_copies.specs.BegunLines.{dues_of, flags_of, sets_of, shown_in, sure_of}
use Rattle.chi_copies.proofs.begun_moments.shown_then.Given as goal

abbrev pub invariant-loop-n : goal.invariant-loop-n
invariant-loop-n l = (length l.settled ≡ 32) × ((m : ℕ) → m < l.n → slice_index_or l.settled m true ≡ shown_in (flags_of l.asked m) (dues_of l.due m) (flags_of l.shown m) l.issuer (sure_of l.sure) (sets_of l.may) m)
