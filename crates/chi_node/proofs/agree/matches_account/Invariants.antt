-- So far each slot matches, or one didn't.
use Rattle.std.proofs.Common.{◌↔◌}
use Rattle.std.specs.Prelude.{IsTrue}
use Rattle.chi_slice.proofs.Below.{AllBelow}
use Rattle.chi_node.proofs.Matches.{MatchesAt}
use Rattle.chi_node.proofs.agree.matches_account.Given as goal

abbrev pub invariant-loop-slot : goal.invariant-loop-slot
invariant-loop-slot g l = IsTrue l.found ↔ AllBelow (MatchesAt l.slice l.requester) l.slot
