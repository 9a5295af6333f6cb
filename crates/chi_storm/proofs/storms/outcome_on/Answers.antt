-- What came of the node's agents.
use Rattle.std.proofs.Common.{ℕ, map, sym, ◌∙◌, ap, subst}
use Rattle.chi_slice.specs.Words.{Sizes}
use Rattle.chi_agent.specs.Ended.{report_of}
use Rattle.chi_agent.specs.Runs.{KeepsTold}
use Rattle.chi_agent.proofs.Numbers.{are_numbered}
use Rattle.chi_storm.specs.Scripts.{scripts_below}
use Rattle.chi_storm.proofs.Begins.{storm_lives}
use Rattle.chi_storm.proofs.storms.outcome_on.Goals as goal

pub run_agents-requires-clause-requesters : goal.run_agents-requires-clause-requesters
run_agents-requires-clause-requesters g c κs within =
    let e = c.in_ok-node.ensures in
    let node = c.in_ok-node.node in
    are_numbered node.tracker.table node.tracker.shape c.args.config.now.agents node.config.agents c.in_ok-node.requesters.items e.requesters (ap (λ (z : Sizes). z.agents) (sym e.config))

pub returns : goal.returns
returns g c =
    let made = c.in_ok-node.ensures in
    let ran = c.in_ok-ended.ensures in
    let ended = c.in_ok-ended.ended in
    let deeds = c.args.deeds.now in
    let scripts = c.in_ok-scripts.ensures.scripts ∙ ap (λ (n : ℕ). scripts_below n deeds) c.agents-agents.ensures.value in
    record {
      node = c.in_ok-node.node;
      results = ended.results.items;
      kept = ended.gathered.reports;
      sizes = made.config;
      shape = made.tracker;
      own = ran.own;
      lives = storm_lives c.in_ok-node.node c.args.config.now c.args.deeds.now c.args.seed c.args.turns c.in_ok-node.requesters.items _ ended.results.items made.config made.requesters scripts ran.lives;
      as_told = subst (λ (z : Sizes). KeepsTold z.agents (map report_of ended.results.items) ended.gathered.reports) made.config ran.kept;
      outcome = c.outcome_of.ensures;
    }
