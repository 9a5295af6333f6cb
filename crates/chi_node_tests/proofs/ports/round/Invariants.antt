use Rattle.std.proofs.Common.{◌≡◌}
use Rattle.chi_node_tests.proofs.ports.round.Given as goal

abbrev pub invariant-loop-spent : goal.invariant-loop-spent
invariant-loop-spent l = (l.port.table ≡ l.fn.port.table) × (l.port.port.shape ≡ l.fn.port.port.shape)
