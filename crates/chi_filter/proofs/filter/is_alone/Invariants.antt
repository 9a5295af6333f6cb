-- So far no two are in the set.
use Rattle.std.proofs.Common.{◌↔◌}
use Rattle.std.specs.Prelude.{IsTrue}
use Rattle.chi_filter.specs.Filter.{IsAlone}
use Rattle.chi_filter.proofs.Below.{AllBelow}
use Rattle.chi_filter.proofs.filter.is_alone.Given as goal

abbrev pub invariant-loop-other : goal.invariant-loop-other
invariant-loop-other l = IsTrue l.alone ↔ AllBelow (IsAlone l.agents l.agent) l.other
