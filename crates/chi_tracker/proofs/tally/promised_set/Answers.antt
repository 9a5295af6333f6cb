use Rattle.std.proofs.Common.{arith}
use Rattle.chi_tracker.proofs.Tallies.{promised_more}
use Rattle.chi_tracker.proofs.tally.promised_set.Goals as goal

pub loop-agent-preserved : goal.loop-agent-preserved
loop-agent-preserved c = promised_more c.args.words.now c.loop-agent.set c.loop-agent.agent c.promise_word-at.result (omega (arith, c.promise_word-at.ensures)) c.loop-agent.invariant
