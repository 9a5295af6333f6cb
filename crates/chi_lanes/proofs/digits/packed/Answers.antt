use Rattle.std.proofs.Common.{◌∙◌}
use Rattle.chi_lanes.proofs.PackLemmas.{packed_is}
use Rattle.chi_lanes.proofs.digits.packed.Goals as goal

pub returns : goal.returns
returns c = c.from_be_bytes.ensures ∙ packed_is c.args.worths c.fits-worths.0
