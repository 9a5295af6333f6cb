use Rattle.std.proofs.Common.{rules}
use Rattle.chi_audit.proofs.Channel.{forks}
use Rattle.chi_audit.proofs.Outboxes.{more_outboxes}
use Rattle.chi_audit.proofs.boxes.open_boxes.Goals as goal

pub another-own-requires-clause-rule : goal.another-own-requires-clause-rule
another-own-requires-clause-rule g c = forks _ _ c.loop-agent.agent c.loop-agent.invariant.2

pub loop-agent-preserved : goal.loop-agent-preserved
loop-agent-preserved g c = (search rules, search rules, search rules, search rules, more_outboxes _ c.loop-agent.agent c.loop-agent.outboxes.items _ c.loop-agent.invariant.4 (search rules))
