use Rattle.chi_lanes.proofs.BitLemmas.{lowest_cleared}
use Rattle.chi_lanes.proofs.bits.without_lowest.Goals as goal

pub returns : goal.returns
returns c k low = lowest_cleared c.args.mask k c.requires c.ranges.mask.fits
