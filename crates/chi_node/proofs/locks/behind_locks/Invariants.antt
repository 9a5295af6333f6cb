-- So far as many locks as turns, and the other slices are left.
use Rattle.std.proofs.Common.{◌≡◌, ◌+◌}
use Rattle.std.specs.Prelude.{vec_len}
use Rattle.chi_node.proofs.locks.behind_locks.Given as goal

abbrev pub invariant-loop-index : goal.invariant-loop-index
invariant-loop-index g l = (vec_len l.locked ≡ l.index) × (vec_len l.slices + l.index ≡ l.count)
