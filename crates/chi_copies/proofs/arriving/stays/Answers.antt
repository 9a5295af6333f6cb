-- Itself, or another.
use Rattle.std.proofs.Common.{◌≢◌, sym, ap, ◌∙◌}
use Rattle.std.specs.Prelude.{◌||◌, not}
use Rattle.chi_copies.specs.Arriving.{any_of, comes}
use Rattle.chi_copies.specs.ArrivingLines.{may_of}
use Rattle.chi_copies.proofs.Put.{unlike}
use Rattle.chi_copies.proofs.ArrivingAgents.{itself, stays_are}
use Rattle.chi_copies.proofs.arriving.stays.Goals as goal

pub returns-then-n-from : goal.returns-then-n-from
returns-then-n-from c = itself c.args.n c.from.result c.args.agent (any_of (may_of c.args.standing.now) (λ k. not (comes k))) c.if-n-from.true c.from.ensures

pub returns-else-n-from : goal.returns-else-n-from
returns-else-n-from c = let apart : c.args.n ≢ c.args.agent = (λ e. c.if-n-from.false (e ∙ sym c.from.ensures)) in
    c.any.ensures ∙ stays_are (may_of c.args.standing.now) c.copies.result c.copies.ensures ∙ ap (λ b. b || any_of (may_of c.args.standing.now) (λ k. not (comes k))) (sym (unlike c.args.n c.args.agent apart))
