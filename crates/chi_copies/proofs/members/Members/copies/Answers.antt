-- One place after the other.
use Rattle.std.proofs.Common.{rules, arith, ◌≡◌, ℕ, length, ap, ◌∙◌}
use Rattle.std.specs.Prelude.{◌||◌}
use Rattle.chi_copies.specs.Copies.{same_held}
use Rattle.chi_copies.specs.Sets.{any_below, members}
use Rattle.chi_copies.specs.ArrivingLines.{copies_at_place, sides_at, sides_of}
use Rattle.chi_copies.proofs.Sets.{next_any}
use Rattle.chi_copies.proofs.ArrivingMembers.{past_sides}
use Rattle.chi_copies.proofs.ArrivingPlaces.{places_any}
use Rattle.chi_copies.proofs.members.Members.copies.Goals as goal

pub loop-place-preserved : goal.loop-place-preserved
loop-place-preserved c = λ h. next_any c.loop-place.place (λ p. copies_at_place c.args.due c.args.asked c.args.self.now p h) (members c.loop-place.copies h) (members c.or-copies.result h) (c.loop-place.invariant h)
    (c.or-copies.ensures h ∙ ap (λ b. members c.loop-place.copies h || b) (c.place_copies.ensures h))

pub returns : goal.returns
returns c = λ h. let all : c.loop-place.place ≡ 9 = omega (arith, c.loop-place-test.false, c.loop-place.auto.place-end) in
    let whole : length c.args.self.now.sides ≡ 9 = search (rules, arith) in
    c.loop-place.invariant h ∙ ap (λ (k : ℕ). any_below k (λ p. copies_at_place c.args.due c.args.asked c.args.self.now p h)) all
    ∙ places_any (λ g s. same_held g h) c.args.due (λ p. sides_of c.args.asked (sides_at c.args.self.now p)) (λ h s. past_sides c.args.asked c.args.self.now.sides h s whole)
