use Rattle.chi_audit.proofs.Channel.{sends, learns}
use Rattle.chi_audit.proofs.boxes.Outbox.send.Goals as goal

pub send_as-requires-clause-rule : goal.send_as-requires-clause-rule
send_as-requires-clause-rule g c = (sends _ _ _ _ c.loop.invariant.1, learns _ _)
