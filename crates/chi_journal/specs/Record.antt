-- Of one load or store: whose it is, its line and its word (docs/PROTOCOL.md, "The actions").
use Rattle.std.specs.Prelude.{ℕ, Bool, true, false, ◌==◌}
use Rattle.chi_flit.specs.declared.numbers.Agent.{Agent}
use Rattle.chi_flit.specs.declared.numbers.Line.{Line}
use Rattle.chi_flit.specs.declared.numbers.WordNo.{WordNo}
use Rattle.chi_journal.specs.declared.record.Record.{Record}
use Rattle.chi_journal.specs.declared.record.Record.TheVariants.{Load, Store}

abbrev pub record_agent : Record → Agent
record_agent (Load agent line word value) = agent
record_agent (Store agent line word value) = agent

abbrev pub record_line : Record → Line
record_line (Load agent line word value) = line
record_line (Store agent line word value) = line

abbrev pub record_word : Record → WordNo
record_word (Load agent line word value) = word
record_word (Store agent line word value) = word

abbrev pub is_load : Record → Bool
is_load (Load agent line word value) = true
is_load (Store agent line word value) = false

abbrev pub is_store : Record → Bool
is_store (Load agent line word value) = false
is_store (Store agent line word value) = true

-- whether a record is the agent's
abbrev pub is_record_of : ℕ → Record → Bool
is_record_of n entry = (record_agent entry).0 == n
