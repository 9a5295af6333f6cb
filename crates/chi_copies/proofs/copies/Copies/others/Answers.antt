-- A bit is set where it wasn't.
use Rattle.chi_copies.specs.Sets.{members}
use Rattle.chi_copies.proofs.Counted.{others_are}
use Rattle.chi_copies.proofs.copies.Copies.others.Goals as goal

pub returns : goal.returns
returns c = λ h. others_are c.known-known.result.bits h (members c.args.self h) c.known-known.ensures.low (c.known-known.ensures.same h)
