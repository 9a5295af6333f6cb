-- The watcher stays that of the cells.
use Rattle.std.proofs.Common.{◌≡◌, map}
use Rattle.chi_audit.specs.Tallies.{reader_cell}
use Rattle.chi_agent_tests.proofs.races.reads.Given as goal

abbrev pub invariant-loop : goal.invariant-loop
invariant-loop g l = map reader_cell l.watcher ≡ l.fn.tallies
