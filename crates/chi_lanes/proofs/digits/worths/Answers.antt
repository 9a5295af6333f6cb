use Rattle.chi_lanes.proofs.WorthLemmas.{lanes_are}
use Rattle.chi_lanes.proofs.digits.worths.Goals as goal

pub returns : goal.returns
returns c = lanes_are 16 c.args.bytes c.fits-bytes.0 c.fits-bytes.1
