-- By what is due of it.
use Rattle.std.proofs.Common.{ap, ◌∙◌}
use Rattle.chi_copies.specs.ArrivingLines.{copies_of, members_of}
use Rattle.chi_copies.proofs.standing.Standing.copies.Goals as goal

pub returns : goal.returns
returns c = λ h. c.copies.ensures h ∙ ap (λ d. copies_of (members_of d c.args.self.now.facts.asked c.args.self.now.members) h) c.due-due.ensures.is
