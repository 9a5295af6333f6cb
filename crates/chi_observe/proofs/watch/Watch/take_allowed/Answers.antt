-- The line was told of the flit, and the rest is settled.
use Rattle.std.proofs.Common.{Some, ap, sym, ◌∙◌, true≢false}
use Rattle.chi_observe.specs.Lines.{lines_in}
use Rattle.chi_observe.specs.Watched.{watched}
use Rattle.chi_observe.proofs.WatchLemmas.{told_settled}
use Rattle.chi_observe.proofs.watch.Watch.take_allowed.Goals.{in-Further, in_default}
use Rattle.chi_observe.proofs.watch.Watch.take_allowed.Goals as goal

pub returns-in_ok-settle-in-Ok : goal.returns-in_ok-settle-in-Ok
returns-in_ok-settle-in-Ok g c =
    elim c.match-matches.branch [
      | in-Further b ↦ absurd (true≢false (sym b.matches-is ∙ c.if-matches.false))
      | in_default b ↦
          told_settled (watched c.args.self.now) c.args.event.now c.args.change.now c.agent_in-agent.result c.news_of-news.result (lines_in c.tell.new.lines.entries) c.in-Ok.told
          c.agent_in-agent.ensures c.news_of-news.ensures c.in-Ok.ensures b.in_default.not-Further
          ∙ ap Some (sym c.in_ok-settle-in-Ok.ensures)
    ]
