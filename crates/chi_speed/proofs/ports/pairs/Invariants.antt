use Rattle.std.proofs.Common.{◌≡◌}
use Rattle.chi_speed.proofs.ports.pairs.Given as goal

abbrev pub invariant-loop-turn : goal.invariant-loop-turn
invariant-loop-turn g l = (l.port.table ≡ l.fn.port.table) × (l.port.port.shape ≡ l.fn.port.port.shape)
