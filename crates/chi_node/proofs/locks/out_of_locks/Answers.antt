-- The slices are sorted by their index.
use Rattle.std.proofs.Common.{rules}
use Rattle.std.proofs.lemmas.List.Sorted.{IsNonDecreasingBy-from_sort_by_key}
use Rattle.chi_node.proofs.locks.out_of_locks.Goals as goal

pub returns-clause-order : goal.returns-clause-order
returns-clause-order g c = IsNonDecreasingBy-from_sort_by_key (λ s. s.index) _ c.sort_unstable_by_key.ensures.sorted (λ a r q k. search rules)
