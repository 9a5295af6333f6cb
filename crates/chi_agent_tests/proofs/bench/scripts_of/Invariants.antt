-- So far the scripts of the first writers, and the writers of the others.
use Rattle.std.proofs.Common.{◌≡◌, ◌+◌, ◌++◌, All, length, map}
use Rattle.chi_audit.specs.Tallies.{writer_agent, IsFresh}
use Rattle.chi_agent.specs.Script.{writer_of, AreFresh}
use Rattle.chi_agent_tests.proofs.bench.scripts_of.Given as goal

abbrev pub invariant-loop-operations : goal.invariant-loop-operations
invariant-loop-operations g l = record {
  writers : map writer_of l.scripts.items ++ map writer_agent l.writers.items ≡ map writer_agent l.fn.writers.items;
  fresh : AreFresh l.fn.tallies l.scripts.items;
  new : All (IsFresh l.fn.tallies) l.writers.items;
  left : length l.writers.items + l.operations-index ≡ length l.fn.all;
  made : length l.scripts.items ≡ l.operations-index;
}
