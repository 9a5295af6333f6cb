-- What follows where a value is there.
use Rattle.std.proofs.Common.{Option}
use Rattle.chi_lanes.specs.Numbers.{◌>>=◌}

abbrev pub and_then : {A B : Type 0} → Option A → (A → Option B) → Option B
and_then o next = o >>= next
