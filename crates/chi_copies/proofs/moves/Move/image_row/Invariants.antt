-- What the copies so far lead to, and those that are left, is what all lead to.
use Rattle.std.proofs.Common.{◌≡◌, ◌<◌}
use Rattle.std.specs.Prelude.{◌||◌, Option}
use Rattle.chi_copies.specs.declared.replies.Reply.{Reply}
use Rattle.chi_copies.specs.Copies.{Held}
use Rattle.chi_copies.specs.Sets.{members}
use Rattle.chi_copies.specs.ArrivingLines.{moves, row_image, sides_of}
use Rattle.chi_copies.proofs.moves.Move.image_row.Given as goal

abbrev pub invariant-loop-rest : goal.invariant-loop-rest
invariant-loop-rest l = (l.rest.bits < 268435456) × ((h : Held) (s : Option Reply) → (sides_of l.asked l.left h s || row_image (moves l.self l.asked) (members l.rest) l.reply h s)
    ≡ (sides_of l.fn.asked l.fn.left h s || row_image (moves l.fn.self l.fn.asked) (members l.fn.copies) l.fn.reply h s))

abbrev pub decreases-loop-rest : goal.decreases-loop-rest
decreases-loop-rest l = l.rest.bits
