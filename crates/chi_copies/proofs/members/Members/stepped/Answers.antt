-- One place after the other.
use Rattle.std.proofs.Common.{rules, arith, ◌≡◌, ◌<◌, length, slice_set}
use Rattle.chi_copies.specs.ArrivingLines.{request_at, sides_at, sides_of, stepped}
use Rattle.chi_copies.proofs.ArrivingMembers.{more_sides, past_sides, steps_all}
use Rattle.chi_copies.proofs.members.Members.stepped.Goals as goal

pub loop-place-preserved : goal.loop-place-preserved
loop-place-preserved c =
    let n = c.loop-place.place in
    let low : n < 9 = search (rules, arith, c.loop-place-test.true) in
    let whole : length (slice_set c.loop-place.next.sides n c.stepped_at.result) ≡ 9 = search (rules, arith, c.loop-place.invariant.0) in (
      whole,
      more_sides c.args.asked c.loop-place.next.sides
          (λ p. stepped c.args.due c.args.asked (request_at c.args.due p) (sides_of c.args.asked (sides_at c.args.self.now 0)) (sides_of c.args.asked (sides_at c.args.self.now p)))
          n c.stepped_at.result c.loop-place.invariant.0 low c.loop-place.invariant.1 c.stepped_at.ensures,
    )

pub returns : goal.returns
returns c =
    let all : c.loop-place.place ≡ 9 = omega (arith, c.loop-place-test.false, c.loop-place.auto.place-end) in
    let whole : length c.args.self.now.sides ≡ 9 = search (rules, arith) in
    steps_all c.args.due c.args.asked (λ p. sides_of c.args.asked (sides_at c.args.self.now p)) (λ p. sides_of c.args.asked (sides_at c.loop-place.next p)) c.requires
    (λ p l. let low : p < c.loop-place.place = search (rules, arith, l, all) in c.loop-place.invariant.1 p low)
    (λ h s. past_sides c.args.asked c.args.self.now.sides h s whole)
    (λ h s. past_sides c.args.asked c.loop-place.next.sides h s c.loop-place.invariant.0)
