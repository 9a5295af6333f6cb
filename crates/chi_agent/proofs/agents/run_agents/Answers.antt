-- Those that came back are all that the node has.
use Rattle.std.proofs.Common.{rules, sym, ◌∙◌}
use Rattle.chi_agent.specs.Runs.{starts, AllLeave}
use Rattle.chi_agent.specs.Script.{operations_of}
use Rattle.chi_agent.proofs.Returns.{own_back}
use Rattle.chi_agent.proofs.agents.run_agents.Goals as goal

pub returns-then-complete-clause-own : goal.returns-then-complete-clause-own
returns-then-complete-clause-own g c =
    let config = c.args.node.now.config in
    let results = c.scoped-back.result.0.results.items in
    let left : AllLeave (starts config c.args.seed c.args.turns c.args.requesters.items (operations_of c.args.scripts.items)) results = search rules in
    own_back c.args.node.now config c.args.seed c.args.turns c.args.requesters.items c.args.scripts.items results (c.requires.writers ∙ sym c.requires.requesters) c.requires.own left
