-- So far so many steps are taken.
use Rattle.std.proofs.Common.{◌≡◌}
use Rattle.chi_copies.specs.Arriving.{Member, led, steps, times}
use Rattle.chi_copies.specs.ArrivingLines.{members_of}
use Rattle.chi_copies.proofs.members.Members.loose.Given as goal

abbrev pub invariant-loop : goal.invariant-loop
invariant-loop l = (m : Member) → members_of l.due l.asked l.members m ≡ times l.counter (led (steps l.due l.asked)) (members_of l.due l.asked l.self) m
