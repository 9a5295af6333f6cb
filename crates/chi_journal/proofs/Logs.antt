-- One load or store more, in a journal with records or without.
use Rattle.std.proofs.Common.{◌≡◌, ℕ, ◌+◌, ◌<◌, ◌==◌, ◌&&◌, List, [], ◌∷◌, ◌++◌, Bool, true, false, cond, length, get_or, slice_set, nat_lt, arith, refl, sym, subst, ap, ◌∙◌, if◌then◌else◌}
use Rattle.std.proofs.lemmas.List.{get_or-set_same, get_or-set_other}
use Rattle.std.proofs.lemmas.Bool.{eqb-true, eqb-false, eq-eqb}
use Rattle.chi_journal.specs.declared.record.Record.{Record}
use Rattle.chi_journal.specs.declared.record.Record.TheVariants.{Load, Store}
use Rattle.chi_journal.specs.declared.totals.JournalTotals.{JournalTotals}
use Rattle.chi_journal.specs.Record.{is_record_of, record_agent, record_line, record_word}
use Rattle.chi_journal.specs.LastValues.{rows_after, value_at, words_in_row}
use Rattle.chi_journal.specs.Totals.{counted, most_counted, part_counted, totals_with}
use Rattle.chi_journal.specs.Journal.{IsLegalAs, IsLegalLog, IsLegalNext, Log, LogKept, is_full, keeps_records, last_words, line_words, log_with, part_count, part_of, words_after}
use Rattle.chi_journal.proofs.Append.{counted_more, eight_with, fits_more, last_words_with, legal_with, length_after, part_fits, part_len_with}

-- the log by whether it keeps records
abbrev with_as : Bool → Log → Record → Log
with_as b log entry = if b
    then record log { entries = log.entries ++ entry ∷ [] }
    else record log {
      words = rows_after log.words entry;
      totals = totals_with log.totals entry (value_at log.words (record_line entry).0 (record_word entry).0);
    }

limit_as : (b : Bool) (log : Log) (entry : Record) → (with_as b log entry).limit ≡ log.limit
limit_as true log entry = refl
limit_as false log entry = refl

pub limit_with : (log : Log) (entry : Record) → (log_with log entry).limit ≡ log.limit
limit_with log entry = limit_as (keeps_records log) log entry

lines_as : (b : Bool) (log : Log) (entry : Record) → (with_as b log entry).lines ≡ log.lines
lines_as true log entry = refl
lines_as false log entry = refl

pub lines_with : (log : Log) (entry : Record) → (log_with log entry).lines ≡ log.lines
lines_with log entry = lines_as (keeps_records log) log entry

keeps_with : (log : Log) (entry : Record) → keeps_records (log_with log entry) ≡ keeps_records log
keeps_with log entry = ap (λ n. nat_lt 0 n) (limit_with log entry)

-- the words of a line in a table after a load or a store
row_with : (rows : List (List ℕ)) (entry : Record) (line : ℕ) → (record_line entry).0 < length rows → words_in_row (rows_after rows entry) line ≡ words_after line (words_in_row rows line) entry
row_with rows (Load agent at word value) line low = refl
row_with rows (Store agent at word value) line low = go (at.0 == line) refl
  where
    go : (b : Bool) → (at.0 == line) ≡ b
        → words_in_row (slice_set rows at.0 (slice_set (words_in_row rows at.0) word.0 value)) line ≡ (if b then slice_set (words_in_row rows line) word.0 value else words_in_row rows line)
    go true e = subst (λ k. words_in_row (slice_set rows at.0 (slice_set (words_in_row rows at.0) word.0 value)) k ≡ slice_set (words_in_row rows k) word.0 value) (eqb-true at.0 line e) (get_or-set_same rows at.0 (slice_set (words_in_row rows at.0) word.0 value) [] low)
    go false e = get_or-set_other rows at.0 line (slice_set (words_in_row rows at.0) word.0 value) [] (λ same. eqb-false at.0 line e (sym same))

words_as : (b : Bool) (log : Log) (entry : Record) (line : ℕ) → (record_line entry).0 < length log.words
    → (if b then last_words (with_as b log entry).entries line else words_in_row (with_as b log entry).words line) ≡ words_after line (if b then last_words log.entries line else words_in_row log.words line) entry
words_as true log entry line low = last_words_with log.entries entry line
words_as false log entry line low = row_with log.words entry line low

-- the values last stored to a line, after a load or a store more
pub line_words_with : (log : Log) (entry : Record) (line : ℕ) → (record_line entry).0 < length log.words → line_words (log_with log entry) line ≡ words_after line (line_words log line) entry
line_words_with log entry line low =
    ap (λ (b : Bool). if b then last_words (log_with log entry).entries line else words_in_row (log_with log entry).words line) (keeps_with log entry)
    ∙ words_as (keeps_records log) log entry line low

legal_load_as : (totals : JournalTotals) (value last : ℕ) → totals.legal ≡ true → value ≡ last → (totals.legal && value == last) ≡ true
legal_load_as totals value last legal is = rw (legal, is, eq-eqb last last refl) refl

legal_as : (b : Bool) (log : Log) (entry : Record) → keeps_records log ≡ b → IsLegalNext log entry → IsLegalAs b log → IsLegalAs b (with_as b log entry)
legal_as true log (Load agent line word value) keeps next legal =
    (legal_with log.entries (Load agent line word value)).1 (legal, next ∙ ap (λ (b : Bool). get_or (if b then last_words log.entries line.0 else words_in_row log.words line.0) word.0 0) keeps)
legal_as true log (Store agent line word value) keeps next legal = (legal_with log.entries (Store agent line word value)).1 (legal, tt)
legal_as false log (Load agent line word value) keeps next legal =
    legal_load_as log.totals value (value_at log.words line.0 word.0) legal (next ∙ ap (λ (b : Bool). get_or (if b then last_words log.entries line.0 else words_in_row log.words line.0) word.0 0) keeps)
legal_as false log (Store agent line word value) keeps next legal = legal

-- a journal stays legal by a legal load, and by a store
pub legal_log_with : (log : Log) (entry : Record) → IsLegalNext log entry → IsLegalLog log → IsLegalLog (log_with log entry)
legal_log_with log entry next legal =
    subst (λ (b : Bool). IsLegalAs b (log_with log entry)) (sym (keeps_with log entry)) (legal_as (keeps_records log) log entry refl next legal)

kept_as : (b : Bool) (log : Log) (entry : Record) → (b && (length log.entries == log.limit)) ≡ false → LogKept log → LogKept (with_as b log entry)
kept_as true log entry unfull kept = record { within = fits_more log.entries entry log.limit kept.within unfull; words = kept.words; parts = kept.parts }
kept_as false log entry unfull kept = record { within = kept.within; words = length_after log.words entry ∙ kept.words; parts = eight_with log.totals entry _ kept.parts }

pub log_kept_with : (log : Log) (entry : Record) → is_full log ≡ false → LogKept log → LogKept (log_with log entry)
log_kept_with log entry unfull kept = kept_as (keeps_records log) log entry unfull kept

-- an agent's part after a load or a store more
part_in_totals : (totals : JournalTotals) (entry : Record) (last n : ℕ) → length totals.parts ≡ 8 → (record_agent entry).0 < 8
    → get_or (totals_with totals entry last).parts n 0 ≡ cond (is_record_of n entry) (counted (get_or totals.parts n 0)) (get_or totals.parts n 0)
part_in_totals totals entry last n eight low = parts_are totals entry last ∙ go (is_record_of n entry) refl
  where
    parts_are : (totals : JournalTotals) (entry : Record) (last : ℕ) → get_or (totals_with totals entry last).parts n 0 ≡ get_or (part_counted totals.parts (record_agent entry).0) n 0
    parts_are totals (Load agent line word value) last = refl
    parts_are totals (Store agent line word value) last = refl

    go : (b : Bool) → is_record_of n entry ≡ b → get_or (part_counted totals.parts (record_agent entry).0) n 0 ≡ cond b (counted (get_or totals.parts n 0)) (get_or totals.parts n 0)
    go true e = subst (λ k. get_or (part_counted totals.parts (record_agent entry).0) k 0 ≡ counted (get_or totals.parts k 0)) (eqb-true (record_agent entry).0 n e) (get_or-set_same totals.parts (record_agent entry).0 (counted (get_or totals.parts (record_agent entry).0 0)) 0 (omega (arith, low, eight)))
    go false e = get_or-set_other totals.parts (record_agent entry).0 n (counted (get_or totals.parts (record_agent entry).0 0)) 0 (λ same. eqb-false (record_agent entry).0 n e (sym same))

part_in_records : (entries : List Record) (entry : Record) (n : ℕ) → length entries < most_counted
    → length (part_of (entries ++ entry ∷ []) n) ≡ cond (is_record_of n entry) (counted (length (part_of entries n))) (length (part_of entries n))
part_in_records entries entry n few = part_len_with entries entry n ∙ go (is_record_of n entry)
  where
    go : (b : Bool) → length (part_of entries n) + cond b 1 0 ≡ cond b (counted (length (part_of entries n))) (length (part_of entries n))
    go true = sym (counted_more (length (part_of entries n)) (omega (arith, part_fits entries n, few)))
    go false = omega arith

part_as : (b : Bool) (log : Log) (entry : Record) (n : ℕ) → LogKept log → log.limit < most_counted → (record_agent entry).0 < 8
    → (if b then length (part_of (with_as b log entry).entries n) else get_or (with_as b log entry).totals.parts n 0)
    ≡ cond (is_record_of n entry) (counted (if b then length (part_of log.entries n) else get_or log.totals.parts n 0)) (if b then length (part_of log.entries n) else get_or log.totals.parts n 0)
part_as true log entry n kept few low = part_in_records log.entries entry n (omega (arith, kept.within, few))
part_as false log entry n kept few low = part_in_totals log.totals entry _ n kept.parts low

pub part_count_with : (log : Log) (entry : Record) (n : ℕ) → LogKept log → log.limit < most_counted → (record_agent entry).0 < 8
    → part_count (log_with log entry) n ≡ cond (is_record_of n entry) (counted (part_count log n)) (part_count log n)
part_count_with log entry n kept few low =
    ap (λ (b : Bool). if b then length (part_of (log_with log entry).entries n) else get_or (log_with log entry).totals.parts n 0) (keeps_with log entry)
    ∙ part_as (keeps_records log) log entry n kept few low

-- a record more, where records are kept
pub with_record : (log : Log) (entry : Record) → keeps_records log ≡ true → log_with log entry ≡ record log { entries = log.entries ++ entry ∷ [] }
with_record log entry keeps = ap (λ (b : Bool). with_as b log entry) keeps
