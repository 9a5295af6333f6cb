-- One more that waits, and all of them.
use Rattle.std.proofs.Common.{arith}
use Rattle.chi_verdict.proofs.ClosingLemmas.{all_closed, one_closed}
use Rattle.chi_verdict.proofs.closings.close.Goals as goal

pub loop-at-preserved : goal.loop-at-preserved
loop-at-preserved g c =
    one_closed c.args.waiting.now c.loop-at.at _ _ c.loop-at.items.items c.put_behind_ack.new.items.items c.args.items.now.items c.loop-at-test.true c.split_at.ensures.front c.in_ok-put_behind_ack.ensures c.loop-at.invariant

pub returns : goal.returns
returns g c = all_closed c.args.waiting.now c.loop-at.at c.loop-at.items.items c.args.items.now.items (omega (arith, c.loop-at-test.false)) c.loop-at.invariant
