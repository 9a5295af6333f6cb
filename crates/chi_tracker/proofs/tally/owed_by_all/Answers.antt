use Rattle.std.proofs.Common.{rules}
use Rattle.chi_tracker.proofs.Tallies.{owed_more, owed_same}
use Rattle.chi_tracker.proofs.tally.owed_by_all.Goals.{then-words-owed_word-ne0, else-words-owed_word-ne0}
use Rattle.chi_tracker.proofs.tally.owed_by_all.Goals as goal

pub loop-agent-preserved : goal.loop-agent-preserved
loop-agent-preserved c = elim c.if-words-owed_word-ne0.branch [
  | then-words-owed_word-ne0 w ↦ owed_more c.args.words.now c.loop-agent.owed c.if-words-owed_word-ne0.owed w.owed_to-own.result c.loop-agent.agent c.loop-agent.invariant w.owed-is w.owed_to-own.ensures.is w.owed_to-own.ensures.few
  | else-words-owed_word-ne0 w ↦ owed_same c.args.words.now c.loop-agent.owed c.if-words-owed_word-ne0.owed c.loop-agent.agent c.loop-agent.invariant w.owed-is (search rules)
]
