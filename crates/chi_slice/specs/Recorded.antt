-- Of the code alone, no public promise cites it: the record of an action that was done (docs/PROTOCOL.md,
-- "The actions", Load and Store).
use Rattle.std.specs.Prelude.{◌≡◌, ◌<◌, false, Option, Some, None}
use Rattle.chi_flit.specs.declared.numbers.Agent.{Agent}
use Rattle.chi_flit.specs.declared.numbers.Line.{Line}
use Rattle.chi_flit.specs.declared.numbers.WordNo.{WordNo}
use Rattle.chi_flit.specs.declared.action.Action.{Action}
use Rattle.chi_flit.specs.declared.action.Step.{Step}
use Rattle.chi_flit.specs.declared.action.Step.TheVariants as steps
use Rattle.chi_flit.specs.declared.action.Effect.{Effect}
use Rattle.chi_flit.specs.declared.action.Effect.TheVariants.{Nothing, Value, Completed}
use Rattle.chi_journal.specs.declared.record.Record.{Record}
use Rattle.chi_journal.specs.declared.record.Record.TheVariants as records
use Rattle.chi_journal.specs.Record.{record_agent, record_line, record_word}
use Rattle.chi_journal.specs.Journal.{Log, is_full}

-- a load of a word that had this effect
abbrev pub load_record : Agent → Line → WordNo → Effect → Option Record
load_record agent line word Nothing = None
load_record agent line word (Value value) = Some (records.Load agent line word value)
load_record agent line word (Completed slot) = None

-- a step that had this effect: only a load or a store has a record
abbrev pub done_record : Agent → Line → Step → Effect → Option Record
done_record agent line (steps.Load word) effect = load_record agent line word effect
done_record agent line (steps.Store word value) effect = Some (records.Store agent line word value)
done_record agent line other effect = None

abbrev pub record_by : Action → Effect → Option Record
record_by action effect = done_record action.agent action.line action.step effect

-- a record, if there is one, has its numbers in their ranges, and the journal has room for it
abbrev pub CanAppend : Log → Option Record → Type 0
CanAppend log None = Unit {0}
CanAppend log (Some entry) = ((record_agent entry).0 < 8) × ((record_line entry).0 < log.lines) × ((record_word entry).0 < 8) × (is_full log ≡ false)
