-- So far each requester agrees, or not.
use Rattle.chi_node.specs.Agree.{Agree}
use Rattle.chi_slice.proofs.Meets.{MeetBelow}
use Rattle.chi_node.proofs.agree.agree_with.Given as goal

abbrev pub invariant-loop-requester : goal.invariant-loop-requester
invariant-loop-requester g l = MeetBelow (Agree l.slice) l.requesters l.requester-index l.found
