-- What the scope's closure asks is what it was given.
use Rattle.std.proofs.Common.{rules}
use Rattle.chi_agent.proofs.agents.fn.run_agents.scope+FnOnce.call_once.Goals as goal

pub scope-requires : goal.scope-requires
scope-requires g c =
    (search rules, (search rules, (search rules, (search rules, (search rules, (search rules, (search rules, (search rules, (search rules, (search rules, (search rules, (search rules, (search rules, search rules)))))))))))))
