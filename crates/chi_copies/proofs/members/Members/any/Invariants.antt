-- So far some place has one, or none has.
use Rattle.std.proofs.Common.{◌≡◌}
use Rattle.chi_copies.specs.Sets.{any_below}
use Rattle.chi_copies.specs.ArrivingLines.{passes_at_place}
use Rattle.chi_copies.proofs.members.Members.any.Given as goal

abbrev pub invariant-loop-place : goal.invariant-loop-place
invariant-loop-place l = l.found ≡ any_below l.place (passes_at_place l.test l.of l.due l.asked l.self)
