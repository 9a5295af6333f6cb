-- So far each is set.
use Rattle.std.proofs.Common.{◌≡◌, ℕ, ◌<◌, length}
use Rattle.chi_copies.specs.Copies.{Held}
use Rattle.chi_copies.specs.Sets.{members}
use Rattle.chi_copies.specs.Begun.{left_beside}
use Rattle.chi_copies.specs.BegunLines.{sets_of, sure_of}
use Rattle.chi_copies.proofs.certain.each_left.Given as goal

abbrev pub invariant-loop-n : goal.invariant-loop-n
invariant-loop-n l = (length l.left ≡ 32) × ((m : ℕ) → m < l.n → (h : Held) → sets_of l.left m h ≡ left_beside (sure_of l.sure m) (members l.apart) (sets_of l.may m) h)
