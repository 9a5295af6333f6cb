-- So far nobody but the agent is in the set, if it is.
use Rattle.std.proofs.Common.{◌↔◌}
use Rattle.std.specs.Prelude.{IsTrue}
use Rattle.chi_filter.specs.Filter.{AreApart}
use Rattle.chi_filter.proofs.Below.{AllBelow}
use Rattle.chi_filter.proofs.filter.has_one_at_most.Given as goal

abbrev pub invariant-loop-agent : goal.invariant-loop-agent
invariant-loop-agent l = IsTrue l.alone ↔ AllBelow (AreApart l.agents) l.agent
