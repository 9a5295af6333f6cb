use Rattle.std.proofs.Common.{◌≡◌, ℕ, ◌<◌, slice_index, length}
use Rattle.std.specs.Slots.{slots_items}
use Rattle.chi_tracker.proofs.closing.read.Given as goal

abbrev pub invariant-loop-i : goal.invariant-loop-i
invariant-loop-i g l = record { wide : length l.words ≡ 44; read : (k : ℕ) → k < l.i → slice_index l.words k ≡ slice_index (slots_items l.closed.words) k }
