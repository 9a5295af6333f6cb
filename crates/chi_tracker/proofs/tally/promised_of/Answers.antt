use Rattle.std.proofs.Common.{◌+◌, [], ◌∷◌, ◌∙◌, slice_index, arith}
use Rattle.chi_tracker.specs.Sums.{set_at}
use Rattle.chi_tracker.specs.Words.{p_of}
use Rattle.chi_tracker.proofs.Entries.{count_same}
use Rattle.chi_tracker.proofs.Tallies.{promised_own}
use Rattle.chi_tracker.proofs.tally.promised_of.Goals as goal

pub returns : goal.returns
returns c =
    let ws = c.args.words.now in let at = c.promise_word-at.result in
    λ t l. c.counts_by_type.ensures t l
    ∙ count_same c.args.shape.now t (p_of ws c.args.agent) (set_at (slice_index ws at ∷ slice_index ws (at + 1) ∷ slice_index ws (at + 2) ∷ slice_index ws (at + 3) ∷ [])) l c.requires.1
    (promised_own ws c.args.agent at (omega (arith, c.promise_word-at.ensures)))
