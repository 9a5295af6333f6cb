-- One place after the other.
use Rattle.std.proofs.Common.{rules, arith, ◌≡◌, ◌<◌, length, slice_set}
use Rattle.chi_copies.specs.ArrivingLines.{moves, side_image, sides_at, sides_of}
use Rattle.chi_copies.proofs.ArrivingMembers.{more_sides, past_sides}
use Rattle.chi_copies.proofs.ArrivingPlaces.{moved_all}
use Rattle.chi_copies.proofs.members.Members.image.Goals as goal

pub loop-place-preserved : goal.loop-place-preserved
loop-place-preserved c =
    let n = c.loop-place.place in
    let low : n < 9 = search (rules, arith, c.loop-place-test.true) in
    let whole : length (slice_set c.loop-place.next.sides n c.sides_moved.result) ≡ 9 = search (rules, arith, c.loop-place.invariant.0) in (
      whole,
      more_sides c.args.asked c.loop-place.next.sides (λ p. side_image (moves c.args.step c.args.asked) (sides_of c.args.asked (sides_at c.args.self.now p)))
          n c.sides_moved.result c.loop-place.invariant.0 low c.loop-place.invariant.1 c.sides_moved.ensures,
    )

pub returns : goal.returns
returns c =
    let all : c.loop-place.place ≡ 9 = omega (arith, c.loop-place-test.false, c.loop-place.auto.place-end) in
    let whole : length c.args.self.now.sides ≡ 9 = search (rules, arith) in
    λ d m. moved_all (moves c.args.step c.args.asked) d (λ p. sides_of c.args.asked (sides_at c.args.self.now p)) (λ p. sides_of c.args.asked (sides_at c.loop-place.next p))
    (λ p l. let low : p < c.loop-place.place = search (rules, arith, l, all) in c.loop-place.invariant.1 p low)
    (λ h s. past_sides c.args.asked c.args.self.now.sides h s whole)
    (λ h s. past_sides c.args.asked c.loop-place.next.sides h s c.loop-place.invariant.0) m
