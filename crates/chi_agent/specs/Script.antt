-- A script, and whose it is (docs/FORMATS.md, "A turn").
use Rattle.std.specs.Prelude.{ℕ, List, All, map}
use Rattle.chi_node.specs.Words.{TableId}
use Rattle.chi_flit.specs.declared.operation.Operation.{Operation}
use Rattle.chi_audit.specs.Tallies.{WriterState, IsFresh}

-- what an agent is to do, and the writer of its tallies
pub record ScriptState : Type 0 where
  pub operations : List Operation
  pub writer : WriterState

-- the writers of the scripts are of these tallies, and have stored nothing
abbrev pub AreFresh : List TableId → List ScriptState → Type 0
AreFresh cells scripts = All (λ s. IsFresh cells s.writer) scripts

-- what is to be done in each of them
abbrev pub operations_of : List ScriptState → List (List Operation)
operations_of scripts = map (λ s. s.operations) scripts

-- whose script it is
abbrev pub writer_of : ScriptState → ℕ
writer_of s = s.writer.agent
