-- Hidden steps of a copy that isn't sure.
use Rattle.std.proofs.Common.{refl, ap}
use Rattle.chi_copies.specs.Sets.{members}
use Rattle.chi_copies.specs.BegunLines.{begun, sure_of}
use Rattle.chi_copies.proofs.BegunTaken.{may_guess, may_sure}
use Rattle.chi_copies.proofs.begun.Begun.may_in.Goals as goal

pub returns-then-sure : goal.returns-then-sure
returns-then-sure c = may_sure (begun c.args.self.now) c.args.flit c.from-at.result (sure_of c.args.self.now.sure c.from-at.result) (members c.copies_at-may.result) c.from-at.ensures refl c.if-sure.true (λ h. ap (λ s. members s h) c.copies_at-may.ensures)

pub returns-else-sure : goal.returns-else-sure
returns-else-sure c = may_guess (begun c.args.self.now) c.args.flit c.from-at.result (sure_of c.args.self.now.sure c.from-at.result) c.due_in.result (members c.hidden.result) (members c.copies_at-may.result) c.from-at.ensures refl c.if-sure.false c.due_in.ensures (λ h. ap (λ s. members s h) c.copies_at-may.ensures) c.hidden.ensures
