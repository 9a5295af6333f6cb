-- By what is due of it.
use Rattle.std.proofs.Common.{ap, ◌∙◌}
use Rattle.chi_copies.specs.Arriving.{any_of}
use Rattle.chi_copies.specs.ArrivingLines.{members_of, member_passes}
use Rattle.chi_copies.proofs.standing.Standing.any.Goals as goal

pub returns : goal.returns
returns c = c.any.ensures ∙ ap (λ d. any_of (members_of d c.args.self.now.facts.asked c.args.self.now.members) (member_passes c.args.test c.args.of)) c.due-due.ensures.is
