-- So far each place has what one step makes of it.
use Rattle.std.proofs.Common.{◌≡◌, ℕ, ◌<◌, length}
use Rattle.std.specs.Prelude.{Option}
use Rattle.chi_copies.specs.declared.replies.Reply.{Reply}
use Rattle.chi_copies.specs.Copies.{Held}
use Rattle.chi_copies.specs.ArrivingLines.{request_at, sides_at, sides_of, stepped}
use Rattle.chi_copies.proofs.members.Members.stepped.Given as goal

abbrev pub invariant-loop-place : goal.invariant-loop-place
invariant-loop-place l = (length l.next.sides ≡ 9) × ((p : ℕ) → p < l.place → (h : Held) (s : Option Reply) → sides_of l.asked (sides_at l.next p) h s
    ≡ stepped l.due l.asked (request_at l.due p) (sides_of l.asked (sides_at l.self 0)) (sides_of l.asked (sides_at l.self p)) h s)
