-- An entry that was claimed is in hand.
use Rattle.std.proofs.Common.{ap, ◌∙◌}
use Rattle.std.specs.Int.{bit_at}
use Rattle.chi_tracker.proofs.BitLaws.{with_here}
use Rattle.chi_speed.proofs.ports.pairs.Goals as goal

pub release-requires-clause-entry : goal.release-requires-clause-entry
release-requires-clause-entry g c = ap (λ h. bit_at h c.in-Some.entry.0) c.in-Some.ensures.hand ∙ with_here c.loop-turn.port.port.hand c.in-Some.entry.0
