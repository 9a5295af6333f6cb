-- The place is set.
use Rattle.std.proofs.Common.{ℕ, ap, ◌∙◌}
use Rattle.chi_observer.specs.Worlds.{put}
use Rattle.chi_observe.proofs.MarkLemmas.{place_set}
use Rattle.chi_observe.proofs.marks.put_copy.Goals as goal

pub returns : goal.returns
returns g c =
    place_set c.reach.new.copies.items c.args.at c.args.number c.in_ok-reach.ensures.there
    ∙ ap (λ (copies : ℕ → ℕ). put c.args.at c.args.number copies) c.in_ok-reach.ensures.same
