-- The line of such agents.
use Rattle.std.proofs.Common.{ap, ◌∙◌}
use Rattle.std.specs.Prelude.{Bool, not, ◌||◌}
use Rattle.chi_observer.proofs.HeldRequests.{supposed_as}
use Rattle.chi_observer.proofs.doubts.supposed.Goals as goal

pub returns : goal.returns
returns c = supposed_as c.args.seen.now c.each_supposed-agents.result c.args.own.now c.has_value-current.result c.each_supposed-agents.ensures (c.has_value-current.ensures ∙ ap (λ (b : Bool). c.args.seen.now.current || not b) c.is_no_value_told-none.ensures)
