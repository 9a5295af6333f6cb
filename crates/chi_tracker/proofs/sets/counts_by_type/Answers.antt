use Rattle.std.proofs.Common.{◌≡◌, ◌+◌, [], ◌∷◌, ◌∙◌, sym, arith, rules, refl, slice_index}
use Rattle.chi_tracker.specs.Sums.{set_at}
use Rattle.chi_tracker.specs.Shape.{low, size}
use Rattle.chi_tracker.specs.Calls.{set_count}
use Rattle.chi_tracker.proofs.Addition.{four_are, part_is}
use Rattle.chi_tracker.proofs.Tallies.{rank_between, rank_first, rank_up}
use Rattle.chi_tracker.proofs.Start.{none_set}
use Rattle.chi_tracker.proofs.sets.counts_by_type.Goals as goal

pub returns-then-eq : goal.returns-then-eq
returns-then-eq c =
    let ws = c.args.words.now in let s = c.args.shape.now in
    let is : ws ≡ 0 ∷ 0 ∷ 0 ∷ 0 ∷ [] = search rules in
    four_are (λ t. set_count ws (low s t) (size s t)) 0 0 0 0 (sym (none_set ws (low s 0) (size s 0) is)) (sym (none_set ws (low s 1) (size s 1) is)) (sym (none_set ws (low s 2) (size s 2) is)) (sym (none_set ws (low s 3) (size s 3) is))

pub returns : goal.returns
returns c =
    let ws = c.args.words.now in let s = c.args.shape.now in
    let zero = slice_index s.sizes 0 in let one = slice_index s.sizes 1 in let two = slice_index s.sizes 2 in let three = slice_index s.sizes 3 in
    four_are (λ t. set_count ws (low s t) (size s t)) _ _ _ _
    (rank_first ws zero c.rank-first.result c.rank-first.ensures ∙ part_is (set_at ws) s 0 0 zero (omega arith) refl)
    (rank_between ws zero one c.rank-first.result c.rank-second.result c.rank-first.ensures c.rank-second.ensures ∙ part_is (set_at ws) s 1 zero one (omega arith) refl)
    (rank_between ws (zero + one) two c.rank-second.result c.rank-third.result c.rank-second.ensures c.rank-third.ensures ∙ part_is (set_at ws) s 2 (zero + one) two (omega arith) refl)
    (rank_between ws (zero + one + two) three c.rank-third.result c.rank-all.result c.rank-third.ensures c.rank-all.ensures ∙ part_is (set_at ws) s 3 (zero + one + two) three (omega arith) refl)

pub overflow_sub-result : goal.overflow_sub-result
overflow_sub-result c = rank_up c.args.words.now (slice_index c.args.shape.now.sizes 0) (slice_index c.args.shape.now.sizes 1) _ _ c.rank-first.ensures c.rank-second.ensures

pub overflow_sub-result-2 : goal.overflow_sub-result-2
overflow_sub-result-2 c = rank_up c.args.words.now (slice_index c.args.shape.now.sizes 0 + slice_index c.args.shape.now.sizes 1) (slice_index c.args.shape.now.sizes 2) _ _ c.rank-second.ensures c.rank-third.ensures

pub overflow_sub-result-3 : goal.overflow_sub-result-3
overflow_sub-result-3 c =
    rank_up c.args.words.now (slice_index c.args.shape.now.sizes 0 + slice_index c.args.shape.now.sizes 1 + slice_index c.args.shape.now.sizes 2) (slice_index c.args.shape.now.sizes 3) _ _ c.rank-third.ensures c.rank-all.ensures
