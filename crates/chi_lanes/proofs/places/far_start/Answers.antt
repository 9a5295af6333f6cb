use Rattle.std.proofs.Common.{◌∙◌, not, ap}
use Rattle.std.specs.List.{position}
use Rattle.chi_lanes.proofs.ColumnLemmas.{start_none, start_some}
use Rattle.chi_lanes.specs.Masks.{is_blank}
use Rattle.chi_lanes.proofs.places.far_start.Goals as goal

pub returns-in-Some : goal.returns-in-Some
returns-in-Some c = start_some c.args.line.now c.args.at c.in-Some.start (c.in-Some.ensures ∙ ap (position (λ b. not (is_blank b))) c.behind.ensures)

pub returns-in-None : goal.returns-in-None
returns-in-None c = start_none c.args.line.now c.args.at (c.in-None.ensures ∙ ap (position (λ b. not (is_blank b))) c.behind.ensures)
