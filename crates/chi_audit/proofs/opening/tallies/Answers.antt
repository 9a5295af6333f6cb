use Rattle.std.proofs.Common.{rules, ◌∙◌, ap, map}
use Rattle.chi_audit.specs.Tallies.{reader_cell}
use Rattle.chi_audit.proofs.Fresh.{cells_unread, opened_more}
use Rattle.chi_audit.proofs.opening.tallies.Goals as goal

pub loop-agent-preserved : goal.loop-agent-preserved
loop-agent-preserved c =
    opened_more c.loop-agent.cells.items _ c.in_ok-cell.cell c.loop-agent.writers.items _ c.loop-agent.readers.items _ c.loop-agent.agent
    (search rules) (search rules) (search rules) c.loop-agent.invariant.0 c.loop-agent.invariant.1 c.loop-agent.invariant.2 c.loop-agent.invariant.3

pub returns-clause-watched : goal.returns-clause-watched
returns-clause-watched c = ap (map reader_cell) c.loop-agent.invariant.3 ∙ cells_unread _
