-- So far the others may stand beside each agent.
use Rattle.std.proofs.Common.{◌↔◌}
use Rattle.std.specs.Prelude.{IsTrue}
use Rattle.chi_slice.specs.Verdict.{MayOthersStand}
use Rattle.chi_slice.proofs.Below.{AllBelow}
use Rattle.chi_slice.proofs.verdict.may_stand_together.Given as goal

abbrev pub invariant-loop-agent : goal.invariant-loop-agent
invariant-loop-agent l = IsTrue l.may ↔ AllBelow (MayOthersStand l.states) l.agent
