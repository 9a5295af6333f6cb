-- By the words on their way.
use Rattle.std.proofs.Common.{ap, ◌∙◌}
use Rattle.std.specs.Prelude.{not}
use Rattle.chi_copies.specs.ArrivingLines.{may_of}
use Rattle.chi_copies.proofs.ArrivingGiven.{comes_are}
use Rattle.chi_copies.proofs.standing.Standing.is_still.Goals as goal

pub returns : goal.returns
returns c = ap not (c.any.ensures ∙ comes_are (may_of c.args.self.now) c.copies.result c.copies.ensures)
