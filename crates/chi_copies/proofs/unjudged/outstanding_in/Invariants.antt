-- So far each agent's are counted.
use Rattle.std.proofs.Common.{◌≡◌, ◌≤◌, ◌*◌}
use Rattle.chi_copies.specs.BegunLines.{dues_of, flags_of}
use Rattle.chi_copies.specs.Lines.{snooped_at}
use Rattle.chi_copies.specs.Unjudged.{outstanding_of, sum_below}
use Rattle.chi_copies.proofs.unjudged.outstanding_in.Given as goal

abbrev pub invariant-loop-n : goal.invariant-loop-n
invariant-loop-n l = (l.outstanding ≡ sum_below l.n (λ n. outstanding_of (flags_of l.asked n) (dues_of l.due n) (snooped_at l.snooped n))) × (l.outstanding ≤ 2 * l.n)
