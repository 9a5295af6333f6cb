-- One place has one side.
use Rattle.std.proofs.Common.{rules, arith, ◌<◌, length, slice_set, ap, ◌∙◌}
use Rattle.std.specs.Prelude.{◌||◌, None}
use Rattle.chi_copies.specs.declared.replies.Asked.TheVariants.{NoReply}
use Rattle.chi_copies.specs.Sets.{held_is}
use Rattle.chi_copies.specs.ArrivingLines.{is_side, sides_at, sides_of}
use Rattle.chi_copies.proofs.ArrivingPlaces.{none_sent, set_here, set_there}
use Rattle.chi_copies.proofs.members.Members.of_none.Goals as goal

pub returns : goal.returns
returns c =
    let low : 0 < length c.empty-first.result.sides = search (rules, arith) in
    none_sent (λ p. sides_of NoReply (sides_at (record { sides = slice_set c.empty-first.result.sides 0 c.add.new.self }) p))
    (λ h s. set_here NoReply c.empty-first.result.sides 0 c.add.new.self low h s ∙ c.add.ensures h s ∙ ap (λ b. b || is_side (held_is c.held_at.result) None h s) (c.empty-sides.ensures NoReply h s)
    ∙ ap (λ g. is_side g None h s) c.held_at.ensures)
    (λ p apart h s. set_there NoReply c.empty-first.result.sides 0 p c.add.new.self apart h s ∙ c.empty-first.ensures NoReply p h s)
