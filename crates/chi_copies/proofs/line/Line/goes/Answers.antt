-- All others are tested.
use Rattle.chi_copies.proofs.Plain.{goes_with}
use Rattle.chi_copies.proofs.line.Line.goes.Goals as goal

pub returns : goal.returns
returns c = goes_with c.args.self.now c.args.flit c.due_of-due.result c.needs_alone-alone.result c.renews-renews.result c.stands_with.result c.args.got c.due_of-due.ensures c.needs_alone-alone.ensures c.renews-renews.ensures c.requires.got c.stands_with.ensures
