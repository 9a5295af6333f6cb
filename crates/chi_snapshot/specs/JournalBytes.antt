-- The bytes of a journal (docs/SNAPSHOTS.md).
use Rattle.std.specs.Prelude.{ℕ, List, ◌++◌}
use Rattle.chi_journal.specs.declared.record.Record.{Record}
use Rattle.chi_journal.specs.declared.record.Record.TheVariants.{Load, Store}
use Rattle.chi_journal.specs.Journal.{Log}
use Rattle.chi_journal.specs.declared.totals.JournalTotals.{JournalTotals}
use Rattle.chi_snapshot.specs.Bytes.{one_byte, four_bytes, eight_bytes, list_bytes, long_list_bytes, mark_bytes}
use Rattle.chi_snapshot.specs.Parts.{words_bytes}

-- a load or store: the number of the form, the agent, the line, the word, and the value
unfoldable pub record_parts : ℕ → ℕ → ℕ → ℕ → ℕ → List ℕ
record_parts form agent line word value = one_byte form ++ one_byte agent ++ one_byte line ++ one_byte word ++ eight_bytes value

abbrev pub record_bytes : Record → List ℕ
record_bytes (Load agent line word value) = record_parts 0 agent.0 line.0 word.0 value
record_bytes (Store agent line word value) = record_parts 1 agent.0 line.0 word.0 value

-- how many loads and stores there were, how many of each agent, and whether each load had the value stored last
unfoldable pub totals_bytes : JournalTotals → List ℕ
totals_bytes totals = eight_bytes totals.loads ++ eight_bytes totals.stores ++ list_bytes eight_bytes totals.parts ++ mark_bytes totals.legal

-- how many records there may be, how many lines they may name, and the records; of loads and stores without one the last
-- words of each line, and the totals
unfoldable pub journal_bytes : Log → List ℕ
journal_bytes log =
    four_bytes log.limit
    ++ eight_bytes log.lines
    ++ long_list_bytes record_bytes log.entries
    ++ long_list_bytes words_bytes log.words
    ++ totals_bytes log.totals
