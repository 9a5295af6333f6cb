use Rattle.std.proofs.Common.{◌≡◌, ◌+◌, ◌*◌, ◌/◌, ap, arith}
use Rattle.chi_tracker.specs.Sums.{below, set_at}
use Rattle.chi_tracker.proofs.Tallies.{rank_more, rank_rest}
use Rattle.chi_tracker.proofs.sets.rank.Goals as goal

pub loop-part-preserved : goal.loop-part-preserved
loop-part-preserved c =
    let ws = c.args.words.now in let k = c.loop-part.part in
    let up : 64 * k + 64 ≡ 64 * (k + 1) = omega arith in
    let more = rank_more ws k 64 (omega arith) in let whole = ap (below (set_at ws)) up in (
      omega (arith, more, whole, c.ones_from-found.ensures.is, c.loop-part.invariant.0),
      omega (arith, c.ones_from-found.ensures.few, c.loop-part.invariant.1),
    )

pub returns : goal.returns
returns c =
    let end : c.loop-part.part ≡ c.args.end / 64 = omega arith in
    omega (arith, rank_rest c.args.words.now c.args.end c.loop-part.part end, c.loop-part.invariant.0, c.ones_from.ensures.is)
