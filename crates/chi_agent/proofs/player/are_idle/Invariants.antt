-- So far each slot is Idle.
use Rattle.std.proofs.Common.{◌↔◌}
use Rattle.std.specs.Prelude.{IsTrue}
use Rattle.chi_slice.proofs.Below.{AllBelow}
use Rattle.chi_agent.proofs.Slots.{IdleAt}
use Rattle.chi_agent.proofs.player.are_idle.Given as goal

abbrev pub invariant-loop-slot : goal.invariant-loop-slot
invariant-loop-slot l = IsTrue l.idle ↔ AllBelow (IdleAt l.requester.slots) l.slot
