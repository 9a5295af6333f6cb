-- So far the copies of some place.
use Rattle.std.proofs.Common.{◌≡◌}
use Rattle.chi_copies.specs.Copies.{Held}
use Rattle.chi_copies.specs.Sets.{any_below, members}
use Rattle.chi_copies.specs.ArrivingLines.{copies_at_place}
use Rattle.chi_copies.proofs.members.Members.copies.Given as goal

abbrev pub invariant-loop-place : goal.invariant-loop-place
invariant-loop-place l = (h : Held) → members l.copies h ≡ any_below l.place (λ p. copies_at_place l.due l.asked l.self p h)
