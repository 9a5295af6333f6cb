-- One bit is set.
use Rattle.chi_copies.specs.Sets.{held_is}
use Rattle.chi_copies.proofs.Sets.{with_is}
use Rattle.chi_copies.proofs.copies.Copies.with.Goals as goal

pub returns : goal.returns
returns c = λ h. with_is c.args.self.bits c.place_of.result (held_is c.args.held) h c.place_of.ensures.is
