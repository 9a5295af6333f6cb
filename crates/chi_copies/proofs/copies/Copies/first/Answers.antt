-- Its bit is the lowest.
use Rattle.chi_copies.proofs.Bits.{first_low, first_is}
use Rattle.chi_copies.proofs.copies.Copies.first.Goals as goal

pub returns : goal.returns
returns c = record { low = first_low c.args.self.bits c.requires.low c.requires.some; first = first_is c.args.self.bits c.requires.low c.requires.some }
