-- So far as many slices as turns.
use Rattle.std.proofs.Common.{◌≡◌}
use Rattle.chi_node.specs.Parts.{opening_slices}
use Rattle.chi_node.proofs.opening.slices.Given as goal

abbrev pub invariant-loop-index : goal.invariant-loop-index
invariant-loop-index g l = l.slices.items ≡ opening_slices l.config l.index
