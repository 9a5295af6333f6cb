-- So far all are tested.
use Rattle.std.proofs.Common.{◌≡◌}
use Rattle.chi_copies.specs.Worlds.{all_below}
use Rattle.chi_copies.specs.BegunLines.{clean_in, sets_of, sure_of}
use Rattle.chi_copies.proofs.begun_moments.is_none_dirty.Given as goal

abbrev pub invariant-loop-n : goal.invariant-loop-n
invariant-loop-n l = l.clean ≡ all_below l.n (λ m. clean_in (sure_of l.sure m) (sets_of l.may m) m l.agent)
