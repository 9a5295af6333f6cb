-- So far the scripts of the first agents, and the writers of the others.
use Rattle.std.proofs.Common.{◌≡◌, ◌+◌, ◌++◌, All, length, map}
use Rattle.std.specs.Prelude.{vec_capacity}
use Rattle.chi_audit.specs.Tallies.{writer_agent, IsFresh}
use Rattle.chi_agent.specs.Script.{writer_of}
use Rattle.chi_storm.specs.Scripts.{scripts_below}
use Rattle.chi_storm.proofs.scripts.scripts_of.Given as goal

abbrev pub invariant-loop-agent : goal.invariant-loop-agent
invariant-loop-agent l = record {
  scripts : map (λ s. s.operations) l.scripts.items ≡ scripts_below l.agent l.deeds;
  writers : map writer_of l.scripts.items ++ map writer_agent l.writers.items ≡ map writer_agent l.fn.writers.items;
  fresh : All (λ s. IsFresh l.tallies s.writer) l.scripts.items;
  new : All (IsFresh l.tallies) l.writers.items;
  left : length l.writers.items + l.agent ≡ l.agents;
  made : length l.scripts.items ≡ l.agent;
  room : vec_capacity l.scripts ≡ l.agents;
}
