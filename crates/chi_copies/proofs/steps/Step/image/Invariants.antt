-- What the copies so far lead to, and those that are left, is what all lead to.
use Rattle.std.proofs.Common.{◌≡◌, ◌<◌}
use Rattle.std.specs.Prelude.{◌||◌}
use Rattle.chi_copies.specs.Copies.{Held, image}
use Rattle.chi_copies.specs.Sets.{members}
use Rattle.chi_copies.specs.Lines.{leads_by}
use Rattle.chi_copies.proofs.steps.Step.image.Given as goal

abbrev pub invariant-loop-rest : goal.invariant-loop-rest
invariant-loop-rest l = (l.rest.bits < 268435456) × ((h : Held) → (members l.left h || image (leads_by l.self) (members l.rest) h) ≡ image (leads_by l.self) (members l.fn.set) h)

abbrev pub decreases-loop-rest : goal.decreases-loop-rest
decreases-loop-rest l = l.rest.bits
