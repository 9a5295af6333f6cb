-- What is tested, and what each value of the type keeps, are all.
use Rattle.chi_line.proofs.Keeping.{parts_are_all}
use Rattle.chi_line.proofs.line.CoherentLine.keeps.Goals as goal

pub returns : goal.returns
returns c = parts_are_all c.args.last.now c.args.self.now c.are_parts_kept.result c.keeps_shape.ensures c.are_parts_kept.ensures
