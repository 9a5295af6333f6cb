-- A request from before may be open.
use Rattle.std.proofs.Common.{ap, ◌∙◌}
use Rattle.chi_copies.specs.Dues.{due_is}
use Rattle.chi_copies.specs.BegunLines.{begun}
use Rattle.chi_copies.proofs.BegunTaken.{due_asked, due_known}
use Rattle.chi_copies.proofs.begun.Begun.due_in.Goals as goal

pub returns-then-asked : goal.returns-then-asked
returns-then-asked c = due_asked (begun c.args.self.now) c.args.flit c.from-at.result c.flag_at-asked.result c.act_due.result c.from-at.ensures c.flag_at-asked.ensures c.if-asked.true c.act_due.ensures

pub returns-else-asked : goal.returns-else-asked
returns-else-asked c = due_known (begun c.args.self.now) c.args.flit c.from-at.result c.flag_at-asked.result c.due.result c.from-at.ensures c.flag_at-asked.ensures c.if-asked.false (c.due.ensures ∙ ap due_is c.code_at.ensures)
