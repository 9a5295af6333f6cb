-- One slice more in each turn.
use Rattle.std.proofs.Common.{◌≡◌, ◌∙◌, ap, arith}
use Rattle.std.proofs.lemmas.List.FromFn.{map-range_with_len_more}
use Rattle.chi_slice.specs.Slice.{opening_slice}
use Rattle.chi_node.specs.Parts.{opening_slices}
use Rattle.chi_node.proofs.opening.slices.Goals as goal

pub loop-index-preserved : goal.loop-index-preserved
loop-index-preserved g c = let more = map-range_with_len_more (opening_slice c.args.config.now) 0 c.loop-index.index c.loop-index.index (omega arith) in cc (c.in_ok-push.ensures.items, c.in_ok-slice.ensures.parts)

pub returns-clause-slices : goal.returns-clause-slices
returns-clause-slices g c =
    let all : c.loop-index.index ≡ c.args.config.now.slices = omega (arith, c.loop-index.auto.index-end, c.loop-index-test.false, c.slices-count.ensures.value) in
    c.loop-index.invariant ∙ ap (opening_slices c.args.config.now) all
