-- Each copy is so.
use Rattle.std.proofs.Common.{◌∙◌}
use Rattle.chi_copies.specs.ArrivingLines.{members_of}
use Rattle.chi_copies.proofs.ArrivingPlaces.{any_each}
use Rattle.chi_copies.proofs.members.Members.is_some.Goals as goal

pub returns : goal.returns
returns c = c.any.ensures ∙ any_each (members_of c.args.due c.args.asked c.args.self.now) c.copies.result c.copies.ensures
