use Rattle.std.proofs.Common.{◌≡◌, map}
use Rattle.crossbeam_channel.specs.Claims.{IsSeatAt, view as knows}
use Rattle.crossbeam_channel.specs.Ends.{sends_on, receives_on, ruled_capacity}
use Rattle.chi_audit.specs.Boxes.{opener, outbox_at}
use Rattle.chi_audit.specs.Numbers.{numbers}
use Rattle.chi_audit.proofs.boxes.open_boxes.Given as goal

abbrev pub invariant-loop-agent : goal.invariant-loop-agent
invariant-loop-agent g l =
    (receives_on l.receiver ≡ sends_on l.sender)
    × IsSeatAt (sends_on l.sender) l.pass
    × (knows l.pass ≡ opener l.agent)
    × (ruled_capacity (sends_on l.sender) ≡ l.agents)
    × (l.outboxes.items ≡ map (outbox_at (record { table = (sends_on l.sender).stamps.shared.table_id; key = (sends_on l.sender).stamps.shared.key })) (numbers l.agent))
