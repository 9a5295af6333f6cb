-- Where it stands for a request, and where it doesn't.
use Rattle.std.proofs.Common.{ap, ◌∙◌}
use Rattle.std.specs.Prelude.{◌&&◌}
use Rattle.chi_copies.specs.ArrivingLines.{any_side, side_passes, sides_at, sides_of}
use Rattle.chi_copies.proofs.members.Members.place_any.Goals as goal

pub returns-then-is_place : goal.returns-then-is_place
returns-then-is_place c = let j = c.if-is_place.ensures in c.any.ensures ∙ ap (λ b. b && any_side (side_passes c.args.test c.args.of) (sides_of c.args.asked (sides_at c.args.self.now c.args.place))) j

pub returns-else-is_place : goal.returns-else-is_place
returns-else-is_place c = let j = c.if-is_place.ensures in c.if-is_place.false ∙ ap (λ b. b && any_side (side_passes c.args.test c.args.of) (sides_of c.args.asked (sides_at c.args.self.now c.args.place))) j
