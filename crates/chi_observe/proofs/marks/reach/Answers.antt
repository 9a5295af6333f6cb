-- A place more.
use Rattle.std.proofs.Common.{ap, ◌∙◌}
use Rattle.chi_observe.specs.Marks.{copies_in}
use Rattle.chi_observe.proofs.MarkLemmas.{place_more}
use Rattle.chi_observe.proofs.marks.reach.Goals as goal

pub places-preserved : goal.places-preserved
places-preserved g c = ap copies_in c.in_ok-push.ensures.items ∙ (place_more c.places.copies.items ∙ c.places.invariant)
