-- What a slice keeps: in the opening state, and where one line of it is replaced.
use Rattle.std.proofs.Common.{◌≡◌, ◌≢◌, ℕ, ◌/◌, ◌%◌, ◌<◌, ◌≤◌, List, [], length, nat_lt, if◌then◌else◌, Bool, true, false, ◌==◌, Option, Some, None, refl, sym, ◌∙◌, subst, replicate, arith, get_or-set_same, get_or-set_other}
use Rattle.std.proofs.lemmas.List.{get_or-replicate}
use Rattle.std.proofs.Math.ListN.{length-set, length-replicate}
use Rattle.std.proofs.lemmas.Bool.{and_parts, eqb-true, eqb-false, ltb-true}
use Rattle.chi_flit.specs.Message.{no_words}
use Rattle.chi_flit.specs.Config.{Sizes, are_in_limits}
use Rattle.chi_line.specs.LineState.{LineState, opening_line}
use Rattle.chi_line.specs.Kept.{Kept}
use Rattle.chi_journal.specs.declared.record.Record.{Record}
use Rattle.chi_journal.specs.declared.record.Record.TheVariants.{Load, Store}
use Rattle.chi_journal.specs.Record.{record_line}
use Rattle.chi_journal.specs.Journal.{IsLegalAs, IsLegalLog, IsLegalNext, Log, LogKept, is_full, line_words, opening_log, words_after}
use Rattle.chi_journal.specs.LastValues.{words_in_row}
use Rattle.chi_journal.proofs.Logs.{legal_log_with, limit_with, line_words_with, lines_with, log_kept_with}
use Rattle.chi_slice.specs.Slice.{SliceKept, SliceState, is_line_in_range, last_of, line, line_in_row, opening_slice, log_after, row_count, row_of_line, slice_with, with_line}
use Rattle.chi_line.proofs.After.{last_with}
use Rattle.chi_line.proofs.Opening.{opening_kept}
use Rattle.chi_slice.proofs.Rows.{row_in_range, rows_apart}

-- each line of an opening slice is in the opening state
pub opening_row : (config : Sizes) (index row : ℕ) → row < row_count config index → line_in_row (opening_slice config index) row ≡ opening_line
opening_row config index row low = get_or-replicate (row_count config index) row opening_line opening_line low

pub opening_at : (config : Sizes) (index l : ℕ) → are_in_limits config ≡ true → index < config.slices → is_line_in_range (opening_slice config index) l ≡ true → line (opening_slice config index) l ≡ opening_line
opening_at config index l limits inside here = opening_row config index (l / config.slices) (row_in_range (opening_slice config index) l limits inside here)

-- the last words and the loads of an opening journal
words_at : (b : Bool) (lines l : ℕ) → l < lines → (if b then no_words else words_in_row (replicate lines no_words) l) ≡ no_words
words_at true lines l low = refl
words_at false lines l low = get_or-replicate lines l no_words [] low

opening_words : (config : Sizes) (l : ℕ) → l < config.lines → line_words (opening_log config.lines config.journal) l ≡ no_words
opening_words config l low = words_at (nat_lt 0 config.journal) config.lines l low

legal_at : (b : Bool) (config : Sizes) → IsLegalAs b (opening_log config.lines config.journal)
legal_at true config = tt
legal_at false config = refl

opening_legal : (config : Sizes) → IsLegalLog (opening_log config.lines config.journal)
opening_legal config = legal_at (nat_lt 0 config.journal) config

low_line : (config : Sizes) (index l : ℕ) → is_line_in_range (opening_slice config index) l ≡ true → l < config.lines
low_line config index l here = ltb-true l config.lines (and_parts (nat_lt l config.lines) (l % config.slices == index) here).0

le-zero : (n : ℕ) → 0 ≤ n
le-zero n = omega arith

opening_of : (config : Sizes) (index : ℕ) → are_in_limits config ≡ true → index < config.slices → SliceKept (opening_slice config index)
opening_of config index limits inside = record {
  config = limits;
  index = inside;
  rows = length-replicate _ _;
  lines = λ l here. subst (λ (words : List ℕ). Kept words (line (opening_slice config index) l)) (sym (opening_words config l (low_line config index l here))) (subst (Kept no_words) (sym (opening_at config index l limits inside here)) opening_kept);
  journal_lines = refl;
  journal_limit = refl;
  journal = record { within = le-zero config.journal; words = length-replicate _ _; parts = refl };
  legal = opening_legal config;
}

-- the opening state of a slice
pub opening_slice_kept : (config : Sizes) (index : ℕ) (lines : List LineState) (journal : Log) → are_in_limits config ≡ true → index < config.slices
    → lines ≡ replicate (row_count config index) opening_line → journal ≡ opening_log config.lines config.journal → SliceKept (slice_with config index lines journal)
opening_slice_kept config index lines journal limits inside ls j =
    subst (λ (xs : List LineState). SliceKept (slice_with config index xs journal)) (sym ls)
    (subst (λ (log : Log). SliceKept (record (opening_slice config index) { journal = log })) (sym j) (opening_of config index limits inside))

-- the line that was put into a row
pub line_in_row-with_line : (s : SliceState) (row : ℕ) (new : LineState) → row < row_count s.config s.index → SliceKept s → line_in_row (with_line s row new) row ≡ new
line_in_row-with_line s row new low k = get_or-set_same s.lines row new opening_line (subst (λ (n : ℕ). row < n) (sym k.rows) low)

-- the other lines
pub line_in_row-with_other : (s : SliceState) (row other : ℕ) (new : LineState) → other ≢ row → line_in_row (with_line s row new) other ≡ line_in_row s other
line_in_row-with_other s row other new apart = get_or-set_other s.lines row other new opening_line apart

-- what holds of the line that was put, and of the others as they were, holds of all lines
pub all_with : (s : SliceState) (l : ℕ) (new : LineState) (P : ℕ → LineState → Type 0) → SliceKept s → is_line_in_range s l ≡ true → P l new → ((other : ℕ) → is_line_in_range s other ≡ true → other ≢ l → P other (line s other))
    → (other : ℕ) → is_line_in_range s other ≡ true → P other (line (with_line s (row_of_line s l) new) other)
all_with s l new P k here put stay other there = go (other == l) refl
  where
    go : (b : Bool) → (other == l) ≡ b → P other (line (with_line s (row_of_line s l) new) other)
    go true same = subst (λ (m : ℕ). P m (line (with_line s (row_of_line s l) new) m)) (sym (eqb-true other l same)) (subst (P l) (sym (line_in_row-with_line s (row_of_line s l) new (row_in_range s l k.config k.index here) k)) put)
    go false other_line =
        let apart : other ≢ l = eqb-false other l other_line in
        subst (P other) (sym (line_in_row-with_other s (row_of_line s l) (row_of_line s other) new (rows_apart s l other k here there apart))) (stay other there apart)

-- a record of another line leaves the values last stored to a line
words_elsewhere : (l : ℕ) (words : List ℕ) (entry : Record) → ((record_line entry).0 == l) ≡ false → words_after l words entry ≡ words
words_elsewhere l words (Load agent at word value) apart = refl
words_elsewhere l words (Store agent at word value) apart = rw apart refl

-- the line of a record is one of the journal's
abbrev pub FitsJournal : Log → Option Record → Type 0
FitsJournal log None = Unit {0}
FitsJournal log (Some entry) = (record_line entry).0 < length log.words

-- the values last stored to a line, once a record is there
pub last_recorded : (log : Log) (entry : Option Record) (l : ℕ) → FitsJournal log entry → line_words (log_after log entry) l ≡ last_with l (line_words log l) entry
last_recorded log None l fits = refl
last_recorded log (Some entry) l fits = line_words_with log entry l fits

-- a record is of the line, and legal after those that are there
abbrev pub FitsLine : Log → ℕ → Option Record → Type 0
FitsLine log l None = Unit {0}
FitsLine log l (Some entry) = ((record_line entry).0 ≡ l) × IsLegalNext log entry

legal_recorded : (log : Log) (entry : Option Record) (l : ℕ) → FitsLine log l entry → IsLegalLog log → IsLegalLog (log_after log entry)
legal_recorded log None l fits legal = legal
legal_recorded log (Some entry) l fits legal = legal_log_with log entry fits.1 legal

-- and there is room for it
abbrev pub FitsRoom : Log → Option Record → Type 0
FitsRoom log None = Unit {0}
FitsRoom log (Some entry) = is_full log ≡ false

kept_recorded : (log : Log) (entry : Option Record) → FitsRoom log entry → LogKept log → LogKept (log_after log entry)
kept_recorded log None room kept = kept
kept_recorded log (Some entry) room kept = log_kept_with log entry room kept

lines_recorded : (log : Log) (entry : Option Record) → (log_after log entry).lines ≡ log.lines
lines_recorded log None = refl
lines_recorded log (Some entry) = lines_with log entry

limit_recorded : (log : Log) (entry : Option Record) → (log_after log entry).limit ≡ log.limit
limit_recorded log None = refl
limit_recorded log (Some entry) = limit_with log entry

last_elsewhere : (log : Log) (entry : Option Record) (l other : ℕ) → FitsJournal log entry → FitsLine log l entry → other ≢ l → line_words (log_after log entry) other ≡ line_words log other
last_elsewhere log None l other inside fits apart = refl
last_elsewhere log (Some entry) l other inside fits apart =
    line_words_with log entry other inside ∙ words_elsewhere other (line_words log other) entry (subst (λ (n : ℕ). (n == other) ≡ false) (sym fits.0) (grind (arith, apart)))

-- the slice with another line, and one more record or none
abbrev pub with_entry : SliceState → ℕ → LineState → Option Record → SliceState
with_entry s l new entry = record (with_line s (row_of_line s l) new) { journal = log_after s.journal entry }

-- the line of a record that is in the slice is one of the journal's
inside_journal : (s : SliceState) (l : ℕ) (entry : Option Record) → is_line_in_range s l ≡ true → SliceKept s → FitsLine s.journal l entry → FitsJournal s.journal entry
inside_journal s l None here k fits = tt
inside_journal s l (Some entry) here k fits =
    subst (λ (n : ℕ). n < length s.journal.words) (sym fits.0)
    (subst (λ (n : ℕ). l < n) (sym (k.journal.words ∙ k.journal_lines)) (ltb-true l s.config.lines (and_parts (nat_lt l s.config.lines) (l % s.config.slices == s.index) here).0))

-- a slice keeps what it keeps where the line that is put into its row does, and the record fits
pub kept_with_entry : (s : SliceState) (l : ℕ) (new : LineState) (entry : Option Record) → is_line_in_range s l ≡ true → SliceKept s
    → Kept (last_with l (last_of s l) entry) new → FitsLine s.journal l entry → FitsRoom s.journal entry → SliceKept (with_entry s l new entry)
kept_with_entry s l new entry here k kept fits room = record {
  config = k.config;
  index = k.index;
  rows = simp length-set k.rows;
  lines = all_with s l new (λ other x. Kept (last_of (with_entry s l new entry) other) x) k here
      (subst (λ (words : List ℕ). Kept words new) (sym (last_recorded s.journal entry l (inside_journal s l entry here k fits))) kept)
      (λ other there apart. subst (λ (words : List ℕ). Kept words (line s other)) (sym (last_elsewhere s.journal entry l other (inside_journal s l entry here k fits) fits apart)) (k.lines other there));
  journal_lines = lines_recorded s.journal entry ∙ k.journal_lines;
  journal_limit = limit_recorded s.journal entry ∙ k.journal_limit;
  journal = kept_recorded s.journal entry room k.journal;
  legal = legal_recorded s.journal entry l fits k.legal;
}
