-- So far each agent is open, or not.
use Rattle.std.proofs.Common.{◌≡◌, false}
use Rattle.chi_slice.proofs.Meets.{MeetBelow}
use Rattle.chi_storm.proofs.verdict.are_all_open.Given as goal

abbrev pub invariant-loop-left : goal.invariant-loop-left
invariant-loop-left l = MeetBelow (λ left. left.not_open ≡ false) l.results l.left-index l.open
