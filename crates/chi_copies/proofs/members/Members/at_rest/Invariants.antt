-- So far no side of each place has a reply.
use Rattle.std.proofs.Common.{◌≡◌, ℕ, ◌<◌, length}
use Rattle.std.specs.Prelude.{Option}
use Rattle.chi_copies.specs.declared.replies.Asked.{Asked}
use Rattle.chi_copies.specs.declared.replies.Reply.{Reply}
use Rattle.chi_copies.specs.Copies.{Held}
use Rattle.chi_copies.specs.ArrivingLines.{rests, sides_at, sides_of}
use Rattle.chi_copies.proofs.members.Members.at_rest.Given as goal

abbrev pub invariant-loop-place : goal.invariant-loop-place
invariant-loop-place l = (length l.next.sides ≡ 9) × ((a b : Asked) (p : ℕ) → p < l.place → (h : Held) (s : Option Reply) → sides_of b (sides_at l.next p) h s ≡ rests (sides_of a (sides_at l.self p)) h s)
