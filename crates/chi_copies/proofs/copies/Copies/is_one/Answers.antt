-- The first copy is the only one.
use Rattle.std.proofs.Common.{arith, ◌<◌}
use Rattle.chi_copies.specs.Sets.{held_at, members}
use Rattle.chi_copies.proofs.Counted.{first_is_one, none_is_one}
use Rattle.chi_copies.proofs.copies.Copies.is_one.Goals as goal

pub returns-then-known-eq0 : goal.returns-then-known-eq0
returns-then-known-eq0 c = none_is_one c.known-known.result.bits (members c.args.self) c.if-known-eq0.true c.known-known.ensures.same

pub returns : goal.returns
returns c =
    let low : c.without-rest.result.bits < 268435456 = omega (arith, c.without-rest.ensures.fewer, c.known-known.ensures.low) in
    first_is_one c.without-rest.result.bits (members c.args.self) (members c.known-known.result) (held_at c.first.result) low c.known-known.ensures.same c.first.ensures.first c.without-rest.ensures.others
