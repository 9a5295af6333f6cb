-- So far it is known of each.
use Rattle.std.proofs.Common.{◌≡◌}
use Rattle.chi_observer.specs.Worlds.{all_below}
use Rattle.chi_observe.specs.Beginnings.{is_told_at}
use Rattle.chi_observe.specs.Judges.{judged}
use Rattle.chi_observe.proofs.judges.Judge.are_told.Given as goal

abbrev pub invariant-loop-n : goal.invariant-loop-n
invariant-loop-n g l = l.told ≡ all_below l.n (is_told_at (judged l.self))
