use Rattle.chi_tracker.proofs.Balance.{credits_more}
use Rattle.chi_tracker.proofs.closing.credits.Goals as goal

pub loop-agent-preserved : goal.loop-agent-preserved
loop-agent-preserved c = credits_more c.args.shape.now c.args.words.now c.args.dues.now c.loop-agent.agent c.loop-agent.all.items c.push.new.self.items _ c.loop-agent.invariant c.push.ensures.items c.due_of-due.ensures c.owed_to-owed.ensures.is c.promised_of-promised.ensures
