-- Each is as if it weren't stored to.
use Rattle.chi_copies.proofs.Shown.{shown_bits}
use Rattle.chi_copies.proofs.copies.Copies.shown.Goals as goal

pub returns : goal.returns
returns c = λ h. shown_bits c.args.self.bits h
