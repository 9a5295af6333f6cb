-- So far all are tested.
use Rattle.std.proofs.Common.{◌≡◌}
use Rattle.std.specs.Prelude.{◌||◌, ◌==◌}
use Rattle.chi_copies.specs.Worlds.{all_below}
use Rattle.chi_copies.specs.Observed.{is_beside}
use Rattle.chi_copies.specs.Sets.{members}
use Rattle.chi_copies.specs.Lines.{may_at}
use Rattle.chi_copies.proofs.line.stands_beside.Given as goal

abbrev pub invariant-loop-n : goal.invariant-loop-n
invariant-loop-n l = l.beside ≡ all_below l.n (λ m. m == l.agent || is_beside (members l.fn.got) l.fn.alone (members (may_at l.may m)))
