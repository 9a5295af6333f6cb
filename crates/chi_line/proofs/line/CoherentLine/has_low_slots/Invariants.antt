-- So far no agent has a slot of a number above 7.
use Rattle.std.proofs.Common.{◌↔◌}
use Rattle.std.specs.Prelude.{IsTrue}
use Rattle.chi_line.specs.Keeping.{HasLowSlotsOf}
use Rattle.chi_filter.proofs.Below.{AllBelow}
use Rattle.chi_line.proofs.line.CoherentLine.has_low_slots.Given as goal

abbrev pub invariant-loop-agent : goal.invariant-loop-agent
invariant-loop-agent l = IsTrue l.low ↔ AllBelow (HasLowSlotsOf l.self) l.agent
