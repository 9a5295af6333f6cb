-- The script of an agent (docs/FORMATS.md, "Storm files").
use Rattle.std.specs.Prelude.{ℕ, ◌==◌, List, map}
use Rattle.std.specs.List.{filter}
use Rattle.chi_audit.specs.Numbers.{numbers}
use Rattle.chi_flit.specs.declared.operation.Operation.{Operation}
use Rattle.chi_script.specs.declared.operations.AgentOperation.{AgentOperation}

-- the agent's lines of a file, in their order
abbrev pub deeds_of : ℕ → List AgentOperation → List AgentOperation
deeds_of agent deeds = filter (λ (deed : AgentOperation). deed.agent.0 == agent) deeds

-- what is to be done in them
abbrev pub agent_script : ℕ → List AgentOperation → List Operation
agent_script agent deeds = map (λ (deed : AgentOperation). deed.operation) (deeds_of agent deeds)

-- those of the agents below n, in rising order
abbrev pub scripts_below : ℕ → List AgentOperation → List (List Operation)
scripts_below n deeds = map (λ agent. agent_script agent deeds) (numbers n)
