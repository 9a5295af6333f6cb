-- The law holds of the relation.
use Rattle.chi_slice.proofs.Protocol.{leaves_one}
use Rattle.chi_slice.proofs.laws.an_action_leaves_one_slice.Goals as goal

pub returns : goal.returns
returns c = leaves_one
