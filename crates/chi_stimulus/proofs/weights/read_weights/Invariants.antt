-- The bytes that are left are fewer with each line.
use Rattle.std.proofs.Common.{length}
use Rattle.chi_stimulus.proofs.weights.read_weights.Given as goal

abbrev pub decreases-loop-line : goal.decreases-loop-line
decreases-loop-line l = length l.rest
