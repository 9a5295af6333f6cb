-- By what is due of it.
use Rattle.std.proofs.Common.{refl}
use Rattle.chi_copies.specs.ArrivingLines.{due_of}
use Rattle.chi_copies.proofs.standing.Standing.forgot.Goals as goal

pub returns : goal.returns
returns c = record { due = refl; asked = refl; acks = refl; overtaken = refl; may = c.image.ensures (due_of c.args.self.now.facts) }
