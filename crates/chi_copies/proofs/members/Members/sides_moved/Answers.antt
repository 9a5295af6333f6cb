-- Beside none.
use Rattle.std.proofs.Common.{ap, ◌∙◌}
use Rattle.std.specs.Prelude.{◌||◌}
use Rattle.chi_copies.specs.ArrivingLines.{moves, side_image, sides_at, sides_of}
use Rattle.chi_copies.proofs.members.Members.sides_moved.Goals as goal

pub returns : goal.returns
returns c = λ h s. c.image.ensures h s ∙ ap (λ b. b || side_image (moves c.args.step c.args.asked) (sides_of c.args.asked (sides_at c.args.self.now c.args.place)) h s) (c.empty-left.ensures c.args.asked h s)
