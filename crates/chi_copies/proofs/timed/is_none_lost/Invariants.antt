-- So far all are tested.
use Rattle.std.proofs.Common.{◌≡◌}
use Rattle.std.specs.Prelude.{not}
use Rattle.chi_copies.specs.declared.tests.Test.TheVariants.{Lost}
use Rattle.chi_copies.specs.Worlds.{all_below}
use Rattle.chi_copies.specs.Observed.{any_of}
use Rattle.chi_copies.specs.Sets.{members}
use Rattle.chi_copies.specs.Lines.{may_at, passes}
use Rattle.chi_copies.proofs.timed.is_none_lost.Given as goal

abbrev pub invariant-loop-n : goal.invariant-loop-n
invariant-loop-n l = l.none ≡ all_below l.n (λ m. not (any_of (members (may_at l.may m)) (passes Lost)))
