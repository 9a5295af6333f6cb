-- The last place is empty.
use Rattle.std.proofs.Common.{rules, arith, ◌≡◌, ◌<◌, length, slice_set, ◌∙◌}
use Rattle.chi_copies.specs.ArrivingLines.{sides_at, sides_of}
use Rattle.chi_copies.proofs.ArrivingMembers.{past_sides}
use Rattle.chi_copies.proofs.ArrivingPlaces.{set_here, set_there, unresent_all}
use Rattle.chi_copies.proofs.members.Members.unresent.Goals as goal

pub returns : goal.returns
returns c =
    let whole : length c.args.self.now.sides ≡ 9 = search (rules, arith) in
    let low : 8 < length c.args.self.now.sides = search (rules, arith, whole) in
    λ d e a m ok. unresent_all d e (λ p. sides_of a (sides_at c.args.self.now p)) (λ p. sides_of a (sides_at (record { sides = slice_set c.args.self.now.sides 8 c.empty.result }) p)) ok
    (λ p apart h s. set_there a c.args.self.now.sides 8 p c.empty.result apart h s)
    (λ h s. set_here a c.args.self.now.sides 8 c.empty.result low h s ∙ c.empty.ensures a h s)
    (λ h s. past_sides a c.args.self.now.sides h s whole) m
