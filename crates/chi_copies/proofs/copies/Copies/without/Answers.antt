-- One bit is cleared.
use Rattle.chi_copies.proofs.Bits.{fewer, without_is}
use Rattle.chi_copies.proofs.copies.Copies.without.Goals as goal

pub returns : goal.returns
returns c = record { fewer = fewer c.args.self.bits c.args.place c.requires.place c.requires.first; others = λ h. without_is c.args.self.bits c.args.place c.requires.place h }
