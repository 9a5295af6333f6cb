use Rattle.chi_lanes.proofs.BitLemmas.{changes_are}
use Rattle.chi_lanes.proofs.bits.changes.Goals as goal

pub returns : goal.returns
returns c k low = changes_are c.args.mask k low
