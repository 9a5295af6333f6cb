use Rattle.std.proofs.Common.{arith}
use Rattle.chi_lanes.proofs.FirstLemmas.{found_first, none_more}
use Rattle.chi_lanes.proofs.places.first_blank.Goals as goal

pub returns-then-mask-ne0 : goal.returns-then-mask-ne0
returns-then-mask-ne0 c =
    found_first c.blanks-mask.result c.loop-at.at c.loop-at.at c.lowest.result c.args.text.now (omega arith) c.blanks-mask.ensures (omega arith) c.loop-at.invariant.none
    c.lowest.ensures.bound c.lowest.ensures.set c.lowest.ensures.below

pub loop-at-preserved : goal.loop-at-preserved
loop-at-preserved c = record {
  within = omega arith;
  blocks = λ some. omega arith;
  none = none_more c.blanks-mask.result c.loop-at.at c.loop-at.at c.args.text.now (omega arith) c.blanks-mask.ensures (omega arith) c.loop-at.invariant.none c.if-mask-ne0.false;
}
