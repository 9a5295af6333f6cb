use Rattle.chi_audit.proofs.Channel.{receives, learns_over}
use Rattle.chi_audit.proofs.boxes.Inbox.receive.Goals as goal

pub recv_as-requires-clause-rule : goal.recv_as-requires-clause-rule
recv_as-requires-clause-rule g c = (receives _ _ c.self.invariant.1, learns_over _ _ c.self.invariant.1)
