use Rattle.std.proofs.Common.{◌≡◌, ℕ, List, [], ◌∷◌, zero, suc, ◌+◌, drop, refl, ap, ◌∙◌, arith}
use Rattle.chi_lanes.specs.Columns.{columns_of}
use Rattle.chi_log.proofs.malformed.word_at.Goals as goal

-- one more is passed
next : (words : List (List ℕ)) (i : ℕ) → drop 1 (drop i words) ≡ drop (suc i) words
next words zero = refl
next [] (suc i) = refl
next (w ∷ ws) (suc i) = next ws i

pub loop-passed-preserved : goal.loop-passed-preserved
loop-passed-preserved c =
    let words = columns_of c.args.line.now in
    let more : suc c.loop-passed._passed ≡ c.loop-passed._passed + 1 = omega arith in
    c.next_column-word.ensures.rest
    ∙ (ap (drop 1) c.loop-passed.invariant ∙ (next words c.loop-passed._passed ∙ ap (λ i. drop i words) more))
