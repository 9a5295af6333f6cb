use Rattle.std.proofs.Common.{◌≡◌}
use Rattle.chi_node_tests.proofs.ports.thousand_rounds.Given as goal

abbrev pub invariant-loop-turn : goal.invariant-loop-turn
invariant-loop-turn l = (l.port.table ≡ l.fn.port.table) × (l.port.port.shape ≡ l.fn.port.port.shape)
