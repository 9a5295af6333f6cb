-- A list of loads and stores in the order in which they were answered: the last value of each word,
-- which lists are legal, and an agent's part of one (docs/PROTOCOL.md, "The journal and last values").
use Rattle.std.specs.Prelude.{◌≡◌, ℕ, List, [], ◌∷◌, ◌++◌, Bool, true, false, ◌&&◌, ◌==◌, nat_lt, ◌≤◌, Option, Some, None, length, get_or, replicate}
use Rattle.std.specs.Prelude.{count_by, slice_set, if◌then◌else◌}
use Rattle.std.specs.List.{filter}
use Rattle.chi_flit.specs.declared.refusal.Refusal.{Refusal}
use Rattle.chi_flit.specs.declared.refusal.Refusal.TheVariants.{JournalFull}
use Rattle.chi_flit.specs.Message.{no_words}
use Rattle.chi_journal.specs.declared.record.Record.{Record}
use Rattle.chi_journal.specs.declared.record.Record.TheVariants.{Load, Store}
use Rattle.chi_journal.specs.Record.{is_load, is_store, is_record_of, record_line, record_word}
use Rattle.chi_journal.specs.declared.totals.JournalTotals.{JournalTotals}
use Rattle.chi_journal.specs.LastValues.{rows_after, value_at, words_in_row}
use Rattle.chi_journal.specs.Totals.{no_totals, totals_with}

-- The records, how many there may be, and how many lines they may name. A journal of limit 0 keeps no records, and
-- has no end: of its loads and stores it keeps the last words of each line, and the totals.
pub record Log : Type 0 where
  pub entries : List Record
  pub limit : ℕ
  pub lines : ℕ
  pub words : List (List ℕ)
  pub totals : JournalTotals

abbrev pub opening_log : ℕ → ℕ → Log
opening_log lines limit = record { entries = []; limit = limit; lines = lines; words = replicate lines no_words; totals = no_totals }

-- a journal without records, of these last words and totals
abbrev pub unrecorded_log : List (List ℕ) → JournalTotals → Log
unrecorded_log words totals = record { entries = []; limit = 0; lines = length words; words = words; totals = totals }

-- whether loads and stores are kept as records
abbrev pub keeps_records : Log → Bool
keeps_records log = nat_lt 0 log.limit

-- whether there are as many records as there may be
abbrev pub is_full : Log → Bool
is_full log = keeps_records log && (length log.entries == log.limit)

-- a record more is refused, 1, exactly at the limit
abbrev pub append_refusal : Log → Option Refusal
append_refusal log = if is_full log then Some JournalFull else None

-- a load or store more: as the last record, or in the last words and the totals
abbrev pub log_with : Log → Record → Log
log_with log entry = if keeps_records log
    then record log { entries = log.entries ++ entry ∷ [] }
    else record log {
      words = rows_after log.words entry;
      totals = totals_with log.totals entry (value_at log.words (record_line entry).0 (record_word entry).0);
    }

-- the words of a line after a record: a store to the line changes its word
abbrev pub words_after : ℕ → List ℕ → Record → List ℕ
words_after line words (Load agent at word value) = words
words_after line words (Store agent at word value) = if at.0 == line then slice_set words word.0 value else words

-- the words of a line after records, in their order
abbrev pub words_after_all : ℕ → List ℕ → List Record → List ℕ
words_after_all line words [] = words
words_after_all line words (entry ∷ entries) = words_after_all line (words_after line words entry) entries

-- the values of the last stores to the words of a line, 0 where there is none
abbrev pub last_words : List Record → ℕ → List ℕ
last_words entries line = words_after_all line no_words entries

abbrev pub last_value : List Record → ℕ → ℕ → ℕ
last_value entries line word = get_or (last_words entries line) word 0

-- a load has the value that was stored last in the records before it
abbrev pub IsLegalAfter : List Record → Record → Type 0
IsLegalAfter before (Load agent line word value) = value ≡ last_value before line.0 word.0
IsLegalAfter before (Store agent line word value) = Unit {0}

-- each record is legal after those before it
abbrev pub AreLegalAfter : List Record → List Record → Type 0
AreLegalAfter before [] = Unit {0}
AreLegalAfter before (entry ∷ entries) = IsLegalAfter before entry × AreLegalAfter (before ++ entry ∷ []) entries

abbrev pub IsLegal : List Record → Type 0
IsLegal entries = AreLegalAfter [] entries

-- how many loads, and how many stores
abbrev pub loads_of : List Record → ℕ
loads_of entries = count_by is_load entries

abbrev pub stores_of : List Record → ℕ
stores_of entries = count_by is_store entries

-- an agent's records, in their order
abbrev pub part_of : List Record → ℕ → List Record
part_of entries n = filter (is_record_of n) entries

-- the values last stored to the words of a line, 0 where there is none
abbrev pub line_words : Log → ℕ → List ℕ
line_words log line = if keeps_records log then last_words log.entries line else words_in_row log.words line

abbrev pub word_value : Log → ℕ → ℕ → ℕ
word_value log line word = get_or (line_words log line) word 0

-- each load had the value that was stored last before it
abbrev pub IsLegalAs : Bool → Log → Type 0
IsLegalAs true log = IsLegal log.entries
IsLegalAs false log = log.totals.legal ≡ true

abbrev pub IsLegalLog : Log → Type 0
IsLegalLog log = IsLegalAs (keeps_records log) log

-- how many loads and stores there were, and how many of them were an agent's
abbrev pub load_count : Log → ℕ
load_count log = if keeps_records log then loads_of log.entries else log.totals.loads

abbrev pub store_count : Log → ℕ
store_count log = if keeps_records log then stores_of log.entries else log.totals.stores

abbrev pub part_count : Log → ℕ → ℕ
part_count log n = if keeps_records log then length (part_of log.entries n) else get_or log.totals.parts n 0

-- a load has the value that was stored last
abbrev pub IsLegalNext : Log → Record → Type 0
IsLegalNext log (Load agent line word value) = value ≡ word_value log line.0 word.0
IsLegalNext log (Store agent line word value) = Unit {0}

-- what every journal keeps
pub record LogKept (log : Log) : Type 0 where
  pub within : length log.entries ≤ log.limit
  pub words : length log.words ≡ log.lines
  pub parts : length log.totals.parts ≡ 8
