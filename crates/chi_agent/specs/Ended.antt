-- What comes back from the agents' threads (docs/FORMATS.md, "A turn").
use Rattle.std.specs.Prelude.{ℕ}
use Rattle.chi_node.specs.Requester.{RequesterState}
use Rattle.chi_audit.specs.Boxes.{outbox_at, ChannelName, OutboxState}
use Rattle.chi_audit.specs.declared.reports.Report.{Report}
use Rattle.chi_agent.specs.declared.ended.AgentResult.{AgentResult}

abbrev pub requester_of : AgentResult → RequesterState
requester_of a = a.requester

abbrev pub report_of : AgentResult → Report
report_of a = a.report

abbrev pub requester_number : RequesterState → ℕ
requester_number r = r.number

-- the outbox of a requester's agent, in that channel
abbrev pub outbox_of : ChannelName → RequesterState → OutboxState
outbox_of channel r = outbox_at channel r.number
