use Rattle.std.proofs.Common.{[], ◌∷◌, ◌∙◌}
use Rattle.chi_tracker.specs.Sums.{set_at}
use Rattle.chi_tracker.specs.Totals.{is_free}
use Rattle.chi_tracker.proofs.Entries.{count_same}
use Rattle.chi_tracker.proofs.Tallies.{free_set}
use Rattle.chi_tracker.proofs.tally.free_counts.Goals as goal

pub returns : goal.returns
returns c =
    let a = c.inverse.result in let b = c.inverse-2.result in let d = c.inverse-3.result in let e = c.inverse-4.result in
    λ t l. c.counts_by_type.ensures t l ∙ count_same c.args.shape.now t (is_free c.args.words.now) (set_at (a ∷ b ∷ d ∷ e ∷ [])) l c.requires
    (free_set c.args.words.now a b d e c.inverse.ensures c.inverse-2.ensures c.inverse-3.ensures c.inverse-4.ensures)
