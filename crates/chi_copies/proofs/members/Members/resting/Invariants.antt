-- So far each place has the same sides.
use Rattle.std.proofs.Common.{◌≡◌, ℕ, ◌<◌, length}
use Rattle.std.specs.Prelude.{Option}
use Rattle.chi_copies.specs.declared.replies.Asked.{Asked}
use Rattle.chi_copies.specs.declared.replies.Asked.TheVariants.{NoReply}
use Rattle.chi_copies.specs.declared.replies.Reply.{Reply}
use Rattle.chi_copies.specs.Copies.{Held}
use Rattle.chi_copies.specs.ArrivingLines.{sides_at, sides_of}
use Rattle.chi_copies.proofs.members.Members.resting.Given as goal

abbrev pub invariant-loop-place : goal.invariant-loop-place
invariant-loop-place l = (length l.next.sides ≡ 9) × ((b : Asked) (p : ℕ) → p < l.place → (h : Held) (s : Option Reply) → sides_of b (sides_at l.next p) h s ≡ sides_of NoReply (sides_at l.self p) h s)
