-- One place after the other.
use Rattle.std.proofs.Common.{rules, arith, ◌≡◌, ℕ, length, ap, ◌∙◌}
use Rattle.std.specs.Prelude.{◌||◌}
use Rattle.chi_copies.specs.Sets.{any_below}
use Rattle.chi_copies.specs.ArrivingLines.{passes_at_place, side_passes, sides_at, sides_of}
use Rattle.chi_copies.proofs.Sets.{next_any}
use Rattle.chi_copies.proofs.ArrivingMembers.{past_sides}
use Rattle.chi_copies.proofs.ArrivingPlaces.{places_any}
use Rattle.chi_copies.proofs.members.Members.any.Goals as goal

pub loop-place-preserved : goal.loop-place-preserved
loop-place-preserved c = next_any c.loop-place.place (passes_at_place c.args.test c.args.of c.args.due c.args.asked c.args.self.now) c.loop-place.found _ c.loop-place.invariant
    (ap (λ b. c.loop-place.found || b) c.place_any-found.ensures)

pub returns : goal.returns
returns c = let all : c.loop-place.place ≡ 9 = omega (arith, c.loop-place-test.false, c.loop-place.auto.place-end) in
    let whole : length c.args.self.now.sides ≡ 9 = search (rules, arith) in
    c.loop-place.invariant ∙ ap (λ (k : ℕ). any_below k (passes_at_place c.args.test c.args.of c.args.due c.args.asked c.args.self.now)) all
    ∙ places_any (side_passes c.args.test c.args.of) c.args.due (λ p. sides_of c.args.asked (sides_at c.args.self.now p)) (λ h s. past_sides c.args.asked c.args.self.now.sides h s whole)
