-- The requester's answer is the place that the choice names.
use Rattle.chi_agent.proofs.Slots.{idle_found}
use Rattle.chi_agent.proofs.tries.lowest_idle.Goals as goal

pub returns : goal.returns
returns c = idle_found c.args.requester.now.slots c.lowest_idle.result c.requires c.lowest_idle.ensures.some c.lowest_idle.ensures.none
