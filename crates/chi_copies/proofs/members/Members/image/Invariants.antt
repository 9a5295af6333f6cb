-- So far the step is taken of each place.
use Rattle.std.proofs.Common.{◌≡◌, ℕ, ◌<◌, length}
use Rattle.std.specs.Prelude.{Option}
use Rattle.chi_copies.specs.declared.replies.Reply.{Reply}
use Rattle.chi_copies.specs.Copies.{Held}
use Rattle.chi_copies.specs.ArrivingLines.{moves, side_image, sides_at, sides_of}
use Rattle.chi_copies.proofs.members.Members.image.Given as goal

abbrev pub invariant-loop-place : goal.invariant-loop-place
invariant-loop-place l = (length l.next.sides ≡ 9) × ((p : ℕ) → p < l.place → (h : Held) (s : Option Reply) → sides_of l.asked (sides_at l.next p) h s
    ≡ side_image (moves l.step l.asked) (sides_of l.asked (sides_at l.self p)) h s)
