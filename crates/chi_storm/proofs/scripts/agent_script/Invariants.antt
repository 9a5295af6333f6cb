-- So far the script has the agent's among the first operations, and there is room for all.
use Rattle.std.proofs.Common.{◌≡◌, length, take}
use Rattle.std.specs.Prelude.{vec_capacity}
use Rattle.chi_storm.specs.Scripts.{deeds_of, agent_script}
use Rattle.chi_storm.proofs.scripts.agent_script.Given as goal

abbrev pub invariant-loop-deed : goal.invariant-loop-deed
invariant-loop-deed g l = (l.script.items ≡ agent_script l.agent.0 (take l.deed-index l.deeds)) × (vec_capacity l.script ≡ length (deeds_of l.agent.0 l.deeds))
