-- A bit is set where one is.
use Rattle.chi_copies.specs.Sets.{place_of}
use Rattle.chi_copies.proofs.Bits.{or_bits}
use Rattle.chi_copies.proofs.copies.Copies.or.Goals as goal

pub returns : goal.returns
returns c = λ h. or_bits c.args.self.bits c.args.other.bits (place_of h)
