-- So far all are so.
use Rattle.std.proofs.Common.{◌≡◌}
use Rattle.std.specs.Prelude.{◌||◌, ◌==◌, not}
use Rattle.chi_observer.specs.Copies.{same}
use Rattle.chi_observer.specs.Copies.Copy.{Invalid}
use Rattle.chi_copies.specs.Arriving.{any_of}
use Rattle.chi_copies.specs.Worlds.{all_below}
use Rattle.chi_copies.specs.ArrivingLines.{received}
use Rattle.chi_copies.proofs.arriving.Arriving.is_alone.Given as goal

abbrev pub invariant-loop-n : goal.invariant-loop-n
invariant-loop-n l = l.alone ≡ all_below l.n (λ m. m == l.agent || not (any_of ((received l.self).may m) (λ k. not (same k.held.copy Invalid))))
