-- So far each is set.
use Rattle.std.proofs.Common.{◌≡◌, ℕ, ◌<◌, length, slice_index_or}
use Rattle.std.specs.Prelude.{false, ◌&&◌, ◌||◌, not}
use Rattle.chi_copies.specs.Begun.{is_one}
use Rattle.chi_copies.specs.BegunLines.{flags_of, sets_of, sure_of}
use Rattle.chi_copies.proofs.begun_moments.sure_then.Given as goal

abbrev pub invariant-loop-n : goal.invariant-loop-n
invariant-loop-n l = (length l.settled ≡ 32) × ((m : ℕ) → m < l.n → slice_index_or l.settled m false ≡ (not (flags_of l.asked m) && (sure_of l.sure m || is_one (sets_of l.may m))))
