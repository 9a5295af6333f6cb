-- So far the agent's among the first operations are counted.
use Rattle.std.proofs.Common.{◌≡◌, ◌≤◌, length, take}
use Rattle.chi_storm.specs.Scripts.{deeds_of}
use Rattle.chi_storm.proofs.scripts.count_of.Given as goal

abbrev pub invariant-loop-deed : goal.invariant-loop-deed
invariant-loop-deed l = (l.count ≡ length (deeds_of l.agent.0 (take l.deed-index l.deeds))) × (l.count ≤ l.deed-index)
