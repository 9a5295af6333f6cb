use Rattle.std.proofs.Common.{◌+◌, arith}
use Rattle.chi_tracker.specs.Sums.{set_at}
use Rattle.chi_tracker.proofs.Addition.{below_same, below_zero}
use Rattle.chi_tracker.proofs.sets.lowest.Goals as goal

pub unreachable-requires : goal.unreachable-requires
unreachable-requires c =
    let h = below_same (λ _. 0) (λ i. set_at c.args.words (c.args.start + i)) c.args.count (λ i l. c.loop-entry.invariant (c.args.start + i) (omega arith) (omega arith)) in
    omega (arith, h, below_zero c.args.count, c.requires.1)
