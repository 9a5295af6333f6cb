use Rattle.std.proofs.Common.{◌≡◌}
use Rattle.crossbeam_channel.specs.Claims.{IsSeatAt, view as knows}
use Rattle.crossbeam_channel.specs.Ends.{sends_on}
use Rattle.chi_audit.specs.Boxes.{sender_view}
use Rattle.chi_audit.proofs.boxes.Outbox.send.Given as goal

abbrev pub invariant-loop : goal.invariant-loop
invariant-loop g l = IsSeatAt (sends_on l.sender) l.pass × (knows l.pass ≡ sender_view l.report.agent.0)
