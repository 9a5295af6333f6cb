-- So far each slice agrees, or not.
use Rattle.std.specs.Prelude.{All}
use Rattle.chi_node.specs.Agree.{Agree}
use Rattle.chi_slice.proofs.Meets.{MeetBelow}
use Rattle.chi_node.proofs.agree.all_agree.Given as goal

abbrev pub invariant-loop-slice : goal.invariant-loop-slice
invariant-loop-slice g l = MeetBelow (λ s. All (Agree s) l.requesters) l.slices l.slice-index l.found
