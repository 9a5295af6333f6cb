-- The law holds of the definitions.
use Rattle.chi_snapshot.proofs.SliceOnce.{saved_once}
use Rattle.chi_snapshot.proofs.laws.a_snapshot_is_of_one_slice.Goals as goal

pub returns : goal.returns
returns c = saved_once
