-- So far all are so.
use Rattle.std.proofs.Common.{◌≡◌}
use Rattle.std.specs.Prelude.{not}
use Rattle.chi_copies.specs.Arriving.{any_of, comes}
use Rattle.chi_copies.specs.Worlds.{all_below}
use Rattle.chi_copies.specs.ArrivingLines.{received}
use Rattle.chi_copies.proofs.arriving.Arriving.is_still.Given as goal

abbrev pub invariant-loop-n : goal.invariant-loop-n
invariant-loop-n l = l.still ≡ all_below l.n (λ m. not (any_of ((received l.self).may m) comes))
