-- They are what the flit makes of its copies.
use Rattle.std.proofs.Common.{sym, ◌∙◌}
use Rattle.chi_copies.specs.Sets.{members}
use Rattle.chi_copies.proofs.Lines.{got_is}
use Rattle.chi_copies.proofs.Plain.{got_stays}
use Rattle.chi_copies.proofs.line.Line.got.Goals as goal

pub returns-then-stays : goal.returns-then-stays
returns-then-stays c = got_is c.args.self.now c.args.flit c.due_of-due.result c.may_of-may.result c.may_of-may.result c.due_of-due.ensures c.may_of-may.ensures
    (λ h. got_stays c.args.flit.grant c.due_of-due.result (members c.may_of-may.result) h (sym c.stays.ensures ∙ c.if-stays.true))

pub returns-else-stays : goal.returns-else-stays
returns-else-stays c = got_is c.args.self.now c.args.flit c.due_of-due.result c.may_of-may.result c.image.result c.due_of-due.ensures c.may_of-may.ensures c.image.ensures
