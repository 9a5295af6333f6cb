use Rattle.chi_lanes.proofs.ColumnLemmas.{end_none, end_some}
use Rattle.chi_lanes.proofs.places.far_end.Goals as goal

pub returns-in-Some : goal.returns-in-Some
returns-in-Some c = end_some c.args.line.now c.args.start c.in-Some.size c.requires c.in-Some.ensures

pub returns-in-None : goal.returns-in-None
returns-in-None c = end_none c.args.line.now c.args.start c.requires c.in-None.ensures
