-- So far each row's sides have led there.
use Rattle.std.proofs.Common.{◌≡◌}
use Rattle.std.specs.Prelude.{◌||◌, Option}
use Rattle.chi_copies.specs.declared.replies.Reply.{Reply}
use Rattle.chi_copies.specs.Copies.{Held}
use Rattle.chi_copies.specs.Sets.{any_below}
use Rattle.chi_copies.specs.ArrivingLines.{moves, of_row, sides_of}
use Rattle.chi_copies.proofs.moves.Move.image.Given as goal

abbrev pub invariant-loop-row : goal.invariant-loop-row
invariant-loop-row l = (h : Held) (s : Option Reply) → sides_of l.asked l.left h s ≡ (sides_of l.fn.asked l.fn.left h s || any_below l.row (λ p. of_row (moves l.self l.asked) l.asked l.from p h s))
