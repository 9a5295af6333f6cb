-- A bit is set where both are.
use Rattle.chi_copies.specs.Sets.{place_of}
use Rattle.chi_copies.proofs.Bits.{and_bits}
use Rattle.chi_copies.proofs.copies.Copies.and.Goals as goal

pub returns : goal.returns
returns c = λ h. and_bits c.args.self.bits c.args.other.bits (place_of h)
