-- It is what each copy that may have sent it leaves.
use Rattle.std.proofs.Common.{sym, ap, ◌∙◌}
use Rattle.std.specs.Prelude.{◌&&◌}
use Rattle.chi_copies.specs.Images.{fits}
use Rattle.chi_copies.specs.Lines.{observed}
use Rattle.chi_copies.specs.Sets.{members}
use Rattle.chi_observer.specs.Rules.{lets_go}
use Rattle.chi_copies.proofs.Lines.{sent_left}
use Rattle.chi_copies.proofs.Plain.{plain_sent}
use Rattle.chi_copies.proofs.line.Line.left_of.Goals as goal

pub returns-then-is_plain : goal.returns-then-is_plain
returns-then-is_plain c = plain_sent c.args.self.now c.args.flit c.due_of-due.result c.lets_go-goes.result c.fitting-fits.result c.plain.result c.due_of-due.ensures (c.lets_go-goes.ensures ∙ ap lets_go c.snooped_of-snooped.ensures)
    (λ h. c.fitting-fits.ensures h ∙ ap (λ m. members m h && fits (observed c.args.self.now) c.args.flit h) c.may_of-may.ensures)
    (sym c.is_plain.ensures ∙ c.if-is_plain.true) (c.plain.ensures c.args.self.now.stores)

pub returns-else-is_plain : goal.returns-else-is_plain
returns-else-is_plain c = sent_left c.args.self.now c.args.flit c.sent-sent.result c.may_of-may.result c.image.result c.sent-sent.ensures c.may_of-may.ensures c.image.ensures
