use Rattle.std.proofs.Common.{◌*◌, arith, rules}
use Rattle.chi_tracker.specs.Steps.{first_clear}
use Rattle.chi_tracker.proofs.Places.{clear_is, clear_above}
use Rattle.chi_tracker.proofs.sets.first_clear.Goals as goal

pub returns-then-not-is_set : goal.returns-then-not-is_set
returns-then-not-is_set c = clear_is c.args.ty c.args.word c.loop-place.place (omega arith) (omega arith) c.loop-place.invariant (search rules)

pub unreachable-requires : goal.unreachable-requires
unreachable-requires c =
    let k = first_clear (8 * c.args.ty) c.args.word in
    let h = c.loop-place.invariant k (clear_above c.args.ty c.args.word) (omega (arith, c.requires.clear.1)) in omega (arith, h, c.requires.clear.0)
