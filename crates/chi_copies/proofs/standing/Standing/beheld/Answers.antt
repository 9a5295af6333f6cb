-- Its own, and another's.
use Rattle.std.proofs.Common.{refl, sym, ap, ◌∙◌}
use Rattle.chi_copies.specs.ArrivingLines.{beheld_by, due_of}
use Rattle.chi_copies.proofs.standing.Standing.beheld.Goals as goal

pub returns-then-own : goal.returns-then-own
returns-then-own c = record { facts = refl; may = λ m. ap (λ b. beheld_by b c.args.step c.args.self.now m) (sym c.if-own.true) }

pub returns : goal.returns
returns c = record { facts = refl; may = λ m. c.image-members.ensures (due_of c.args.self.now.facts) m ∙ ap (λ b. beheld_by b c.args.step c.args.self.now m) (sym c.if-own.false) }
