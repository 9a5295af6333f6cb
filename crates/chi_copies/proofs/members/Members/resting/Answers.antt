-- One place after the other.
use Rattle.std.proofs.Common.{rules, arith, ◌≡◌, ◌<◌, length, slice_set}
use Rattle.chi_copies.specs.declared.replies.Asked.TheVariants.{NoReply}
use Rattle.chi_copies.specs.ArrivingLines.{sides_at, sides_of}
use Rattle.chi_copies.proofs.ArrivingMembers.{more_sides, past_sides}
use Rattle.chi_copies.proofs.ArrivingPlaces.{same_all}
use Rattle.chi_copies.proofs.members.Members.resting.Goals as goal

pub loop-place-preserved : goal.loop-place-preserved
loop-place-preserved c =
    let n = c.loop-place.place in
    let low : n < 9 = search (rules, arith, c.loop-place-test.true) in
    let whole : length (slice_set c.loop-place.next.sides n c.resting.result) ≡ 9 = search (rules, arith, c.loop-place.invariant.0) in (
      whole,
      λ b. more_sides b c.loop-place.next.sides (λ p. sides_of NoReply (sides_at c.args.self.now p))
          n c.resting.result c.loop-place.invariant.0 low (c.loop-place.invariant.1 b) (c.resting.ensures b),
    )

pub returns : goal.returns
returns c =
    let all : c.loop-place.place ≡ 9 = omega (arith, c.loop-place-test.false, c.loop-place.auto.place-end) in
    let whole : length c.args.self.now.sides ≡ 9 = search (rules, arith) in
    λ d b m. same_all d (λ p. sides_of NoReply (sides_at c.args.self.now p)) (λ p. sides_of b (sides_at c.loop-place.next p))
    (λ p l. let low : p < c.loop-place.place = search (rules, arith, l, all) in c.loop-place.invariant.1 b p low)
    (λ h s. past_sides NoReply c.args.self.now.sides h s whole)
    (λ h s. past_sides b c.loop-place.next.sides h s c.loop-place.invariant.0) m
