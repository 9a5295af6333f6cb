-- So many turns were played.
use Rattle.std.proofs.Common.{◌≡◌}
use Rattle.chi_node.specs.Calls.{IsSameRequester}
use Rattle.chi_agent.specs.Draws.{stream_of}
use Rattle.chi_agent.specs.Lives.{Played}
use Rattle.chi_agent.proofs.lives.live.Given as goal

abbrev pub invariant-loop : goal.invariant-loop
invariant-loop g l = record {
  same : IsSameRequester l.fn.runner.player.requester l.runner.player.requester;
  turns : l.runner.turns ≡ l.counter;
  draws : l.runner.draws ≡ record (stream_of l.fn.plan.seed l.fn.runner.player.requester.number) { word_pos = l.counter };
  played : Played l.fn.node.config l.fn.plan.seed l.fn.runner.player.requester.number l.fn.runner.player l.counter l.runner.player;
}
