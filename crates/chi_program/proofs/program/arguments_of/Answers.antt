-- What is collected is what was given.
use Rattle.std.proofs.Common.{sym, ◌∙◌}
use Rattle.std.specs.Vec.Iter.{into_iter_items, into_iter_steps}
use Rattle.std.proofs.lemmas.Iterator.{items_from_collect}
use Rattle.std.proofs.lemmas.Iterator.Consumers.{YieldsList-from_shown}
use Rattle.std.proofs.lemmas.Result.{IfOk-at_ok}
use Rattle.chi_program.proofs.program.arguments_of.Goals as goal

pub returns-clause-ok : goal.returns-clause-ok
returns-clause-ok c =
    IfOk-at_ok _ c.in_ok-collect.was
    (items_from_collect _ c.collect.ensures.ran (YieldsList-from_shown into_iter_steps (λ x. x) into_iter_items (λ s t h. sym s.rest.ok.0 ∙ h.0) (λ s x t h. h.0) c.args.given))
