-- Each copy is so.
use Rattle.std.proofs.Common.{◌∙◌}
use Rattle.chi_copies.specs.ArrivingLines.{may_of}
use Rattle.chi_copies.proofs.ArrivingAgents.{words_are}
use Rattle.chi_copies.proofs.standing.Standing.may_bring.Goals as goal

pub returns : goal.returns
returns c = c.any.ensures ∙ words_are c.args.coming c.args.age (may_of c.args.self.now) c.copies.result c.copies.ensures
