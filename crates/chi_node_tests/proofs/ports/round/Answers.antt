-- An entry that was claimed or that a spent credit brought is in hand.
use Rattle.std.proofs.Common.{ap, ◌∙◌}
use Rattle.std.specs.Int.{bit_at}
use Rattle.chi_tracker.specs.Views.{PortView}
use Rattle.chi_tracker.proofs.BitLaws.{with_here}
use Rattle.chi_node_tests.proofs.ports.round.Goals as goal

pub release-requires-clause-entry : goal.release-requires-clause-entry
release-requires-clause-entry c = ap (λ h. bit_at h c.in-Some.entry.0) c.in-Some.ensures.hand ∙ with_here c.args.port.now.port.hand c.in-Some.entry.0

pub release-requires-in-loop-spent-clause-entry : goal.release-requires-in-loop-spent-clause-entry
release-requires-in-loop-spent-clause-entry c = ap (λ (p : PortView). bit_at p.hand c.spend-entry.result.0) c.spend-entry.ensures.port ∙ with_here c.loop-spent.port.port.hand c.spend-entry.result.0
