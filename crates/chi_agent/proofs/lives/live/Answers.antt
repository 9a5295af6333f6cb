-- Each turn of the loop is one more.
use Rattle.std.proofs.Common.{rules, ◌≡◌, ◌+◌, ◌<◌, ◌^◌, ap, ◌∙◌, inr, arith}
use Rattle.chi_agent.specs.Draws.{stream_of, word_after}
use Rattle.chi_agent.specs.Turns.{count_after, HasEnded}
use Rattle.chi_agent.proofs.Plays.{counts_on, goes_on, plays_on, word_at}
use Rattle.chi_agent.proofs.lives.live.Goals as goal

pub loop-preserved : goal.loop-preserved
loop-preserved g c =
    let i = c.loop.invariant in
    let e = c.turn-done.ensures in
    let n = c.args.runner.now.player.requester.number in
    let k = c.loop.counter in
    let fits : c.args.plan.turns < 2 ^ 64 = omega arith in
    let next : c.turn-done.new.self.turns ≡ k + 1 = (e.count ∙ ap count_after i.turns) ∙ counts_on k c.args.plan.turns c.loop-test.true fits in
    record {
      same = search rules;
      turns = next;
      draws = goes_on (stream_of c.args.plan.seed n) c.loop.runner.draws c.turn-done.new.self.draws k c.args.plan.turns i.draws e.draws c.loop-test.true fits;
      played = plays_on c.args.node.now.config c.args.plan.seed n c.args.runner.now.player k c.turn-done.new.self.turns (word_after c.loop.runner.draws) c.loop.runner.player c.turn-done.new.self.player c.turn-done.result i.played (word_at (stream_of c.args.plan.seed n) c.loop.runner.draws k i.draws) next e.turn;
    }

pub returns-then-has_ended-2-clause-lived : goal.returns-then-has_ended-2-clause-lived
returns-then-has_ended-2-clause-lived g c =
    let i = c.loop.invariant in
    let e = c.turn-done.ensures in
    let n = c.args.runner.now.player.requester.number in
    let k = c.loop.counter in
    let fits : c.args.plan.turns < 2 ^ 64 = omega arith in
    let next : c.turn-done.new.self.turns ≡ k + 1 = (e.count ∙ ap count_after i.turns) ∙ counts_on k c.args.plan.turns c.loop-test.true fits in
    let ended : HasEnded c.turn-done.new.self.player = search rules in
    record {
      turns = k + 1;
      few = omega (arith, c.loop-test.true);
      all = inr ended;
      played = plays_on c.args.node.now.config c.args.plan.seed n c.args.runner.now.player k c.turn-done.new.self.turns (word_after c.loop.runner.draws) c.loop.runner.player c.turn-done.new.self.player c.turn-done.result i.played (word_at (stream_of c.args.plan.seed n) c.loop.runner.draws k i.draws) next e.turn;
    }
