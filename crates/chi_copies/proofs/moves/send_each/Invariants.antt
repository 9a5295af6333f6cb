-- So far each that it may send is there.
use Rattle.std.proofs.Common.{◌≡◌}
use Rattle.std.specs.Prelude.{◌||◌, Option}
use Rattle.chi_copies.specs.declared.replies.Reply.{Reply}
use Rattle.chi_copies.specs.Copies.{Held}
use Rattle.chi_copies.specs.Sets.{any_below, held_is}
use Rattle.chi_copies.specs.ArrivingLines.{act_at, replies_by, sides_of}
use Rattle.chi_copies.proofs.moves.send_each.Given as goal

abbrev pub invariant-loop-number : goal.invariant-loop-number
invariant-loop-number l = (h : Held) (s : Option Reply) → sides_of l.asked l.left h s ≡ (sides_of l.fn.asked l.fn.left h s || any_below l.number (λ n. replies_by l.asked l.due (act_at l.asked n) (held_is l.held) h s))
