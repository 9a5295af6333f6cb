use Rattle.std.proofs.Common.{◌≡◌, ◌+◌, ◌-◌, length}
use Rattle.chi_observe.specs.Marks.{copies_in}
use Rattle.chi_observe.proofs.marks.reach.Given as goal

abbrev pub invariant-places : goal.invariant-places
invariant-places g l = copies_in l.copies.items ≡ copies_in l.fn.copies.items

abbrev pub decreases-places : goal.decreases-places
decreases-places g l = l.fn.at + 1 - length l.copies.items
