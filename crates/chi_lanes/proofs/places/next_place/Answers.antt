-- The two lowest edges are the next column; it is looked for where they aren't both known.
use Rattle.std.proofs.Common.{◌==◌, cond, ◌<◌, ◌≤◌, ◌∙◌, ap, length, arith}
use Rattle.chi_lanes.proofs.ColumnLemmas.{next_is, none_next, ordered}
use Rattle.chi_lanes.proofs.EdgeLemmas.{are_edges, by_value, edges_left, end_by, start_by}
use Rattle.chi_lanes.proofs.places.next_place.Goals as goal

pub returns-then-behind-ne0 : goal.returns-then-behind-ne0
returns-then-behind-ne0 c =
    let line = c.args.line.now in
    let at = c.args.at in
    let edges = c.args.edges in
    let behind = c.without_lowest-behind.result in
    let start = c.lowest-start.result in
    let end = c.lowest.result in
    let has = c.requires c.if-edges-ne0.true in
    let first = by_value edges behind start c.lowest-start.ensures.value c.without_lowest-behind.ensures in
    let second = by_value behind c.without_lowest.result end c.lowest.ensures.value c.without_lowest.ensures in
    let are = are_edges edges behind start end c.lowest-start.ensures.bound c.lowest-start.ensures.set c.lowest-start.ensures.below first c.lowest.ensures.bound c.lowest.ensures.set c.lowest.ensures.below in
    let begins = start_by line at edges start end has are in
    let ends = end_by line at edges start end has are in
    record {
      some = are.ordered;
      within = ends.within;
      parted = next_is line at start end begins.0 begins.1 ends;
      known = λ some. edges_left line at edges c.without_lowest.result start end has are (λ k low. second k low ∙ ap (λ b. cond (k == end) 0 b) (first k low));
    }

pub returns-then-start-line : goal.returns-then-start-line
returns-then-start-line c = none_next c.args.line.now c.args.at c.far_start-start.result c.far_start-start.ensures c.if-start-line.true

pub returns : goal.returns
returns c =
    let line = c.args.line.now in
    let start = c.far_start-start.result in
    let end = c.far_end.result in
    let low : start ≤ length line = c.far_start-start.ensures.within in
    let other = c.if-start-line.false in
    let inside : start < length line = omega arith in
    record {
      some = ordered line c.args.at start end c.far_start-start.ensures inside c.far_end.ensures;
      within = c.far_end.ensures.within;
      parted = next_is line c.args.at start end c.far_start-start.ensures inside c.far_end.ensures;
      known = λ some. absurd (omega (arith, some));
    }
