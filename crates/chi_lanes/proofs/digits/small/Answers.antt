use Rattle.std.proofs.Common.{nat_lt, arith}
use Rattle.chi_lanes.proofs.MaskLemmas.{marked}
use Rattle.chi_lanes.proofs.digits.small.Goals as goal

pub returns : goal.returns
returns c = marked nat_lt 16 16 c.args.worths c.fits-worths.0 (omega arith)
