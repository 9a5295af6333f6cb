use Rattle.std.proofs.Common.{rules, ◌∙◌, ap}
use Rattle.chi_audit.specs.Tally.{last_tally}
use Rattle.chi_audit.specs.Tallies.{WriterState}
use Rattle.chi_audit.proofs.Orders.{last_added}
use Rattle.chi_audit.proofs.cells.Tallies.store.Goals as goal

pub returns-clause-last : goal.returns-clause-last
returns-clause-last g c = ap (λ (w : WriterState). last_tally w.stored) c.store.ensures ∙ search (rules, last_added)
