-- So far the lane of each agent is kept.
use Rattle.std.proofs.Common.{◌↔◌}
use Rattle.std.specs.Prelude.{IsTrue}
use Rattle.chi_line.specs.Keeping.{IsLaneKept}
use Rattle.chi_filter.proofs.Below.{AllBelow}
use Rattle.chi_line.proofs.line.CoherentLine.are_lanes_kept.Given as goal

abbrev pub invariant-loop-agent : goal.invariant-loop-agent
invariant-loop-agent l = IsTrue l.kept ↔ AllBelow (IsLaneKept l.last l.self) l.agent
