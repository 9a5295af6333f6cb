use Rattle.std.proofs.Common.{slice_index, ap, ◌∙◌}
use Rattle.chi_tracker.specs.Shape.{owed_in}
use Rattle.chi_tracker.proofs.Addition.{four_are}
use Rattle.chi_tracker.proofs.tally.owed_to.Goals as goal

pub returns-clause-is : goal.returns-clause-is
returns-clause-is c =
    let ws = c.args.words.now in
    λ t l. four_are (λ t. owed_in t (slice_index ws c.owed_word.result)) c.ones_from.result c.ones_from-2.result c.ones_from-3.result c.ones_from-4.result
    c.ones_from.ensures.is c.ones_from-2.ensures.is c.ones_from-3.ensures.is c.ones_from-4.ensures.is t l ∙ ap (λ i. owed_in t (slice_index ws i)) c.owed_word.ensures
