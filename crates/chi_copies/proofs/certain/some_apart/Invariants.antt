-- So far what some other agent's copies don't go with.
use Rattle.std.proofs.Common.{◌≡◌}
use Rattle.std.specs.Prelude.{◌||◌, ◌==◌, not}
use Rattle.chi_copies.specs.Copies.{Held}
use Rattle.chi_copies.specs.Worlds.{all_below}
use Rattle.chi_copies.specs.Sets.{members}
use Rattle.chi_copies.specs.Begun.{apart_from}
use Rattle.chi_copies.specs.BegunLines.{sets_of, sure_of}
use Rattle.chi_copies.proofs.certain.some_apart.Given as goal

abbrev pub invariant-loop-n : goal.invariant-loop-n
invariant-loop-n l = (h : Held) → members l.apart h ≡ not (all_below l.n (λ m. m == l.agent || not (apart_from (sure_of l.sure m) (sets_of l.may m) h)))
