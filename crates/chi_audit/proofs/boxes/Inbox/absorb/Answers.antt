use Rattle.chi_audit.proofs.Channel.{merges}
use Rattle.chi_audit.proofs.boxes.Inbox.absorb.Goals as goal

pub absorb-requires-clause-rule : goal.absorb-requires-clause-rule
absorb-requires-clause-rule g c = merges _ _ _ _ c.sent.inside.report c.sent.invariant.1
