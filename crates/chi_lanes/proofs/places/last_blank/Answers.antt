use Rattle.std.proofs.Common.{◌-◌, length, arith}
use Rattle.chi_lanes.proofs.FirstLemmas.{found_first, found_none}
use Rattle.chi_lanes.proofs.places.last_blank.Goals as goal

pub returns-then-mask-eq0 : goal.returns-then-mask-eq0
returns-then-mask-eq0 c =
    found_none c.blanks-mask.result (length c.args.text.now - 64) c.args.at c.args.text.now (omega (arith, c.requires.blocks)) c.blanks-mask.ensures (omega arith) c.requires.none c.if-mask-eq0.true

pub returns-else-mask-eq0 : goal.returns-else-mask-eq0
returns-else-mask-eq0 c =
    found_first c.blanks-mask.result (length c.args.text.now - 64) c.args.at c.lowest.result c.args.text.now (omega (arith, c.requires.blocks)) c.blanks-mask.ensures (omega arith) c.requires.none
    c.lowest.ensures.bound c.lowest.ensures.set c.lowest.ensures.below
