-- Where none is on its way, and where one is.
use Rattle.std.proofs.Common.{ap, ◌∙◌}
use Rattle.std.specs.Prelude.{◌||◌}
use Rattle.chi_copies.specs.declared.moves.Move.TheVariants.{Unseen, Busy, Asks}
use Rattle.chi_copies.specs.ArrivingLines.{moves, side_image, sides_at, sides_of, stepped}
use Rattle.chi_copies.proofs.members.Members.stepped_at.Goals as goal

pub returns-in-None : goal.returns-in-None
returns-in-None c = let j = c.in-None.ensures in λ h s. c.image.ensures h s
    ∙ ap (λ b. b || side_image (moves (Unseen c.args.due) c.args.asked) (sides_of c.args.asked (sides_at c.args.self.now 0)) h s) (c.empty-left.ensures c.args.asked h s)
    ∙ ap (λ r. stepped c.args.due c.args.asked r (sides_of c.args.asked (sides_at c.args.self.now 0)) (sides_of c.args.asked (sides_at c.args.self.now c.args.place)) h s) j

pub returns-in-Some : goal.returns-in-Some
returns-in-Some c = let j = c.in-Some.ensures in λ h s. c.image-in-Some-2.ensures h s
    ∙ ap (λ b. b || side_image (moves (Asks c.in-Some.act c.args.due) c.args.asked) (sides_of c.args.asked (sides_at c.args.self.now 0)) h s)
    (c.image-in-Some.ensures h s
    ∙ ap (λ b. b || side_image (moves Busy c.args.asked) (sides_of c.args.asked (sides_at c.args.self.now c.args.place)) h s) (c.empty-left.ensures c.args.asked h s))
    ∙ ap (λ r. stepped c.args.due c.args.asked r (sides_of c.args.asked (sides_at c.args.self.now 0)) (sides_of c.args.asked (sides_at c.args.self.now c.args.place)) h s) j
