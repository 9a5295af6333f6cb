-- So far each agent is clean.
use Rattle.std.proofs.Common.{◌↔◌}
use Rattle.std.specs.Prelude.{IsTrue}
use Rattle.chi_line.specs.Keeping.{IsCleanAt}
use Rattle.chi_filter.proofs.Below.{AllBelow}
use Rattle.chi_line.proofs.line.CoherentLine.is_clean.Given as goal

abbrev pub invariant-loop-agent : goal.invariant-loop-agent
invariant-loop-agent l = IsTrue l.clean ↔ AllBelow (IsCleanAt l.self) l.agent
