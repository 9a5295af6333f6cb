-- The slot's entry is in hand, and one of the tracker's.
use Rattle.chi_node.proofs.Keeps.{held_entry, in_hand}
use Rattle.chi_node.proofs.requester.Requester.complete.Goals as goal

pub release-requires-clause-entry : goal.release-requires-clause-entry
release-requires-clause-entry g c = (held_entry c.self.inside.entries _ c.finished-entry.new.self _ c.self.invariant c.finished-entry.ensures.counts.entries).1

pub returns-clause-held : goal.returns-clause-held
returns-clause-held g c = rw (← c.self.view_is) (in_hand c.self.inside.entries _ c.finished-entry.new.self _ c.finished-entry.result c.self.invariant c.finished-entry.ensures.counts.entries c.finished-entry.ensures.entry)
