-- Of the representation alone: what a journal keeps beside its records: room up to the limit, the last value
-- of each word, and the totals (docs/PROTOCOL.md, "The journal and last values").
use Rattle.std.specs.Prelude.{◌≡◌, ℕ, ◌<◌, ◌^◌, ◌≤◌, ◌↔◌, List, length, get_or, nat_lt, replicate, IsTrue, true, if◌then◌else◌}
use Rattle.chi_flit.specs.Message.{no_words}
use Rattle.chi_journal.specs.declared.record.Record.{Record}
use Rattle.chi_journal.specs.declared.totals.JournalTotals.{JournalTotals}
use Rattle.chi_journal.specs.LastValues.{words_in_row}
use Rattle.chi_journal.specs.Journal.{IsLegal, Log, last_words, loads_of, part_of, stores_of}
use Rattle.chi_journal.specs.Totals.{most_counted, no_totals}

-- the journal of these parts: its words and totals are those of loads and stores that have no record
abbrev pub log_of : List Record → ℕ → List (List ℕ) → JournalTotals → Log
log_of entries limit rows totals = record {
  entries = entries;
  limit = limit;
  lines = length rows;
  words = if nat_lt 0 limit then replicate (length rows) no_words else rows;
  totals = if nat_lt 0 limit then no_totals else totals;
}

-- what is kept beside records
pub record IsTracked (entries : List Record) (limit : ℕ) (capacity : ℕ) (rows : List (List ℕ)) (totals : JournalTotals) : Type 0 where
  pub room : limit ≤ capacity
  pub last_is : (line : ℕ) → line < length rows → words_in_row rows line ≡ last_words entries line
  pub loads_is : totals.loads ≡ loads_of entries
  pub stores_is : totals.stores ≡ stores_of entries
  pub parts_is : (n : ℕ) → n < 8 → get_or totals.parts n 0 ≡ length (part_of entries n)
  pub legal_is : IsTrue totals.legal ↔ IsLegal entries

pub record IsJournal (entries : List Record) (limit : ℕ) (capacity : ℕ) (rows : List (List ℕ)) (totals : JournalTotals) : Type 0 where
  pub narrow : limit < 2 ^ 32
  pub within : length entries ≤ limit
  pub eight : length totals.parts ≡ 8
  pub few_loads : totals.loads ≤ most_counted
  pub few_stores : totals.stores ≤ most_counted
  pub tracked : nat_lt 0 limit ≡ true → IsTracked entries limit capacity rows totals
