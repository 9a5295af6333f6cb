-- So far one alone may be dirty, or none, or several.
use Rattle.chi_copies.specs.declared.tests.Test.TheVariants.{Dirty}
use Rattle.chi_copies.specs.Observed.{any_of}
use Rattle.chi_copies.specs.Sets.{members}
use Rattle.chi_copies.specs.Lines.{may_at, passes}
use Rattle.chi_copies.proofs.Alone.{OneOf}
use Rattle.chi_copies.proofs.timed.dirty_one.Given as goal

abbrev pub invariant-loop-n : goal.invariant-loop-n
invariant-loop-n l = OneOf (λ m. any_of (members (may_at l.may m)) (passes Dirty)) l.n l.who
