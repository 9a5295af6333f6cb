use Rattle.std.proofs.Common.{[], ◌∷◌, ◌∙◌, bit_and, slice_index}
use Rattle.chi_tracker.specs.Sums.{set_at}
use Rattle.chi_tracker.specs.Totals.{is_in_hand}
use Rattle.chi_tracker.proofs.Entries.{count_same}
use Rattle.chi_tracker.proofs.Tallies.{hand_set}
use Rattle.chi_tracker.proofs.tally.hand_counts.Goals as goal

pub returns : goal.returns
returns c =
    let ws = c.args.words.now in let s = c.args.shape.now in
    let a = c.inverse.result in let b = c.inverse-2.result in let d = c.inverse-3.result in let e = c.inverse-4.result in
    λ t l. c.counts_by_type.ensures t l
    ∙ count_same s t (is_in_hand ws s.agents) (set_at (bit_and (slice_index ws 0) a ∷ bit_and (slice_index ws 1) b ∷ bit_and (slice_index ws 2) d ∷ bit_and (slice_index ws 3) e ∷ [])) l c.requires.entries
    (hand_set ws c.args.promised.now s.agents a b d e c.requires.promised c.inverse.ensures c.inverse-2.ensures c.inverse-3.ensures c.inverse-4.ensures)
