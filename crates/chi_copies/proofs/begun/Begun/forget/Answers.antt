-- A flit may be due from before.
use Rattle.chi_copies.specs.BegunLines.{begun}
use Rattle.chi_copies.proofs.BegunTaken.{forgets_high, forgets_low, forgets_none}
use Rattle.chi_copies.proofs.begun.Begun.forget.Goals as goal

pub returns-then-agent-ge32 : goal.returns-then-agent-ge32
returns-then-agent-ge32 c = forgets_high c.args.agent.0 (begun c.args.self.now) c.if-agent-ge32.true

pub returns-then-may_be_left_over : goal.returns-then-may_be_left_over
returns-then-may_be_left_over c = forgets_low c.args.agent.0 (begun c.args.self.now) (begun c.forget_at.new.self) c.may_be_left_over.result c.if-agent-ge32.false c.may_be_left_over.ensures c.if-may_be_left_over.true c.forget_at.ensures

pub returns-else-may_be_left_over : goal.returns-else-may_be_left_over
returns-else-may_be_left_over c = forgets_none c.args.agent.0 (begun c.args.self.now) c.may_be_left_over.result c.if-agent-ge32.false c.may_be_left_over.ensures c.if-may_be_left_over.false
