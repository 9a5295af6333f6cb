use Rattle.std.proofs.Common.{ap, ◌∙◌}
use Rattle.chi_observe.specs.Lines.{lines_in}
use Rattle.chi_observe.proofs.CopyLemmas.{same_lines}
use Rattle.chi_observe.proofs.copies.lines_copy.Goals as goal

pub returns : goal.returns
returns g c = ap lines_in c.reserve.ensures.entries ∙ same_lines c.args.lines.now.entries c.in_ok-copy.copy.entries c.in_ok-copy.ensures.cases
