-- Each copy's bit stays.
use Rattle.chi_copies.proofs.Bits.{known_low, known_same}
use Rattle.chi_copies.proofs.copies.Copies.known.Goals as goal

pub returns : goal.returns
returns c = record { low = known_low c.args.self.bits; same = λ h. known_same c.args.self.bits h }
