-- Each unseen step is a row.
use Rattle.std.proofs.Common.{sym, ◌∙◌}
use Rattle.std.specs.Prelude.{◌||◌}
use Rattle.chi_copies.specs.Sets.{members}
use Rattle.chi_copies.proofs.Images.{free_hidden, free_listed}
use Rattle.chi_copies.proofs.copies.Copies.free.Goals as goal

pub returns-then-are_hidden : goal.returns-then-are_hidden
returns-then-are_hidden c = λ h. c.or.ensures h ∙ (λ i. c.dropped-dropped.ensures h i || c.led.ensures h i) ∙ free_hidden c.args.stores (members c.args.self) h (sym c.are_hidden.ensures ∙ c.if-are_hidden.true)

pub returns-else-are_hidden : goal.returns-else-are_hidden
returns-else-are_hidden c = λ h. c.dropped-dropped.ensures h ∙ free_listed c.args.stores (members c.args.self) h (sym c.are_hidden.ensures ∙ c.if-are_hidden.false)
