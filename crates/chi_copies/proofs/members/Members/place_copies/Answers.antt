-- Where it stands for a request, and where it doesn't.
use Rattle.std.proofs.Common.{ap, ◌∙◌}
use Rattle.std.specs.Prelude.{◌&&◌}
use Rattle.chi_copies.specs.ArrivingLines.{side_copies, sides_at, sides_of}
use Rattle.chi_copies.proofs.members.Members.place_copies.Goals as goal

pub returns-then-is_place : goal.returns-then-is_place
returns-then-is_place c = let j = c.if-is_place.ensures in λ h. c.copies.ensures h ∙ ap (λ b. b && side_copies (sides_of c.args.asked (sides_at c.args.self.now c.args.place)) h) j

pub returns-else-is_place : goal.returns-else-is_place
returns-else-is_place c = let j = c.if-is_place.ensures in λ h. c.empty.ensures h ∙ ap (λ b. b && side_copies (sides_of c.args.asked (sides_at c.args.self.now c.args.place)) h) j
