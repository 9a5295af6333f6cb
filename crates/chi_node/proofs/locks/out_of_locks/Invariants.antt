-- So far as many slices as turns, and the other locks are left.
use Rattle.std.proofs.Common.{◌≡◌, ◌+◌, ◌≤◌}
use Rattle.std.specs.Prelude.{vec_capacity, vec_len}
use Rattle.chi_node.proofs.locks.out_of_locks.Given as goal

abbrev pub invariant-loop-index : goal.invariant-loop-index
invariant-loop-index g l = (vec_len l.ended ≡ l.index) × (vec_len l.locked + l.index ≡ l.count) × (l.count ≤ vec_capacity l.ended)
