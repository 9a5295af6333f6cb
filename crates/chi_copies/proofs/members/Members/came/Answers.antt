-- Those of its place, if it has one.
use Rattle.std.proofs.Common.{rules, arith, ◌≡◌, ◌≤◌, ◌<◌, ℕ, length, slice_set, sym, subst, ap, ◌∙◌}
use Rattle.std.specs.Prelude.{Some, Option}
use Rattle.chi_copies.specs.declared.sides.Sides.{Sides}
use Rattle.chi_copies.specs.declared.replies.Reply.{Reply}
use Rattle.chi_copies.specs.Copies.{Held}
use Rattle.chi_copies.specs.ArrivingLines.{place_of_request, sides_at, sides_of}
use Rattle.chi_copies.proofs.Finite.{no}
use Rattle.chi_copies.proofs.ArrivingMembers.{past_sides}
use Rattle.chi_copies.proofs.ArrivingPlaces.{came_all, no_place, rows_sent, set_here, set_there}
use Rattle.chi_copies.proofs.members.Members.came.Goals as goal

pub returns-then-place-lt9 : goal.returns-then-place-lt9
returns-then-place-lt9 c =
    let whole : length c.args.self.now.sides ≡ 9 = search (rules, arith) in
    let room : length c.empty-next.result.sides ≡ 9 = search (rules, arith) in
    let low : 0 < length c.empty-next.result.sides = search (rules, arith, room) in
    let is : c.sides_of.result ≡ sides_at c.args.self.now (place_of_request c.args.due (Some c.args.act)) = c.sides_of.ensures.is ∙ ap (sides_at c.args.self.now) c.place_of_request-place.ensures in
    λ e a m. came_all c.args.act c.requires c.args.due e (λ p. sides_of a (sides_at c.args.self.now p)) (λ p. sides_of a (sides_at (record { sides = slice_set c.empty-next.result.sides 0 c.sides_of.result }) p))
    (λ h s. set_here a c.empty-next.result.sides 0 c.sides_of.result low h s ∙ ap (λ x. sides_of a x h s) is)
    (λ p apart h s. set_there a c.empty-next.result.sides 0 p c.sides_of.result apart h s ∙ c.empty-next.ensures a p h s)
    (λ h s. past_sides a c.args.self.now.sides h s whole)
    (rows_sent a (sides_at c.args.self.now (place_of_request c.args.due (Some c.args.act))) (subst (λ (x : Sides). length x.rows ≡ 45) is c.sides_of.ensures.whole)) m

pub returns-else-place-lt9 : goal.returns-else-place-lt9
returns-else-place-lt9 c =
    let whole : length c.args.self.now.sides ≡ 9 = search (rules, arith) in
    let high : 9 ≤ place_of_request c.args.due (Some c.args.act) = subst (λ (n : ℕ). 9 ≤ n) c.place_of_request-place.ensures c.if-place-lt9.false in
    let past : place_of_request c.args.due (Some c.args.act) ≡ 9 = no_place c.args.act c.args.due high in
    λ e a m.
    let nothing = λ (h : Held) (s : Option Reply). past_sides a c.args.self.now.sides h s whole in
    let gone = λ (h : Held) (s : Option Reply). ap (λ (p : ℕ). sides_of a (sides_at c.args.self.now p) h s) past ∙ nothing h s in
    came_all c.args.act c.requires c.args.due e (λ p. sides_of a (sides_at c.args.self.now p)) (λ p. sides_of a (sides_at c.empty-next.result p))
    (λ h s. c.empty-next.ensures a 0 h s ∙ sym (gone h s))
    (λ p apart h s. c.empty-next.ensures a p h s)
    nothing
    (λ h s f. no (sym (gone h s) ∙ f)) m
