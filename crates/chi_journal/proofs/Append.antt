-- One record more: what is kept beside a journal's records follows.
use Rattle.std.proofs.Common.{nat_le, nat_lt, replicate, true≢false, ◌≡◌, ◌≢◌, ℕ, ◌+◌, ◌^◌, ◌<◌, ◌≤◌, ◌↔◌, ◌==◌, ◌&&◌, List, [], ◌∷◌, ◌++◌, Bool, true, false, cond, length, get_or, slice_set, count_by, filter, arith, refl, sym, subst, ap, ◌∙◌, append_assoc, append-nil, if◌then◌else◌, length-append}
use Rattle.std.proofs.lemmas.List.{get_or-replicate, get_or-set_same, get_or-set_other, length-set}
use Rattle.std.proofs.lemmas.List.Elements.{filter-append}
use Rattle.std.proofs.lemmas.List.Sums.{count_by-le-length, length-filter, sum_by-append}
use Rattle.std.proofs.lemmas.Bool.{and_parts, eqb-true, eq-eqb, leb-true, lt-ltb, ltb-true}
use Rattle.chi_flit.specs.Message.{no_words}
use Rattle.chi_flit.specs.declared.numbers.Line.{Line}
use Rattle.chi_flit.specs.declared.numbers.WordNo.{WordNo}
use Rattle.chi_journal.specs.declared.record.Record.{Record}
use Rattle.chi_journal.specs.declared.record.Record.TheVariants.{Load, Store}
use Rattle.chi_journal.specs.declared.totals.JournalTotals.{JournalTotals}
use Rattle.chi_journal.specs.Record.{is_load, is_record_of, is_store, record_agent, record_line, record_word}
use Rattle.chi_journal.specs.LastValues.{rows_after, value_at, words_in_row}
use Rattle.chi_journal.specs.Totals.{are_counts, counted, most_counted, totals_with, part_counted}
use Rattle.chi_journal.specs.Journal.{AreLegalAfter, IsLegal, IsLegalAfter, is_full, last_value, last_words, loads_of, log_with, part_of, stores_of, words_after, words_after_all}
use Rattle.chi_journal.specs.Tracked.{IsJournal, IsTracked, log_of}

words_with : (line : ℕ) (words : List ℕ) (entries : List Record) (entry : Record)
    → words_after_all line words (entries ++ entry ∷ []) ≡ words_after line (words_after_all line words entries) entry
words_with line words [] entry = refl
words_with line words (first ∷ entries) entry = words_with line (words_after line words first) entries entry

-- the words of a line after one record more
pub last_words_with : (entries : List Record) (entry : Record) (line : ℕ) → last_words (entries ++ entry ∷ []) line ≡ words_after line (last_words entries line) entry
last_words_with entries entry line = words_with line _ entries entry

count_with : (p : Record → Bool) (entries : List Record) (entry : Record) → count_by p (entries ++ entry ∷ []) ≡ count_by p entries + cond (p entry) 1 0
count_with p entries entry = sum_by-append (λ x. cond (p x) 1 0) entries (entry ∷ []) ∙ omega arith

pub loads_with : (entries : List Record) (entry : Record) → loads_of (entries ++ entry ∷ []) ≡ loads_of entries + cond (is_load entry) 1 0
loads_with entries entry = count_with is_load entries entry

pub stores_with : (entries : List Record) (entry : Record) → stores_of (entries ++ entry ∷ []) ≡ stores_of entries + cond (is_store entry) 1 0
stores_with entries entry = count_with is_store entries entry

-- an agent's part grows by its own records alone
pub part_with : (entries : List Record) (entry : Record) (n : ℕ) → part_of (entries ++ entry ∷ []) n ≡ part_of entries n ++ filter (is_record_of n) (entry ∷ [])
part_with entries entry n = filter-append (is_record_of n) entries (entry ∷ [])

pub part_len_with : (entries : List Record) (entry : Record) (n : ℕ) → length (part_of (entries ++ entry ∷ []) n) ≡ length (part_of entries n) + cond (is_record_of n entry) 1 0
part_len_with entries entry n = length-filter (is_record_of n) (entries ++ entry ∷ []) ∙ count_with (is_record_of n) entries entry ∙ ap (λ k. k + cond (is_record_of n entry) 1 0) (sym (length-filter (is_record_of n) entries))

pub loads_fit : (entries : List Record) → loads_of entries ≤ length entries
loads_fit entries = count_by-le-length is_load entries

pub stores_fit : (entries : List Record) → stores_of entries ≤ length entries
stores_fit entries = count_by-le-length is_store entries

pub part_fits : (entries : List Record) (n : ℕ) → length (part_of entries n) ≤ length entries
part_fits entries n = subst (λ k. k ≤ length entries) (sym (length-filter (is_record_of n) entries)) (count_by-le-length (is_record_of n) entries)

legal_before : (before entries : List Record) (entry : Record) → AreLegalAfter before (entries ++ entry ∷ []) ↔ (AreLegalAfter before entries × IsLegalAfter (before ++ entries) entry)
legal_before before [] entry =
    let P : List Record → Type 0 = λ b. IsLegalAfter b entry in
    (λ h. (tt, subst P (sym (append-nil before)) h.0), λ h. (subst P (append-nil before) h.1, tt))
legal_before before (first ∷ entries) entry =
    let P : List Record → Type 0 = λ b. IsLegalAfter b entry in
    let rest = legal_before (before ++ first ∷ []) entries entry in
    let same = append_assoc before (first ∷ []) entries in
    (λ h. ((h.0, (rest.0 h.1).0), subst P same (rest.0 h.1).1), λ h. (h.0.0, rest.1 (h.0.1, subst P (sym same) h.1)))

-- a legal list with one record more is legal where that record is
pub legal_with : (entries : List Record) (entry : Record) → IsLegal (entries ++ entry ∷ []) ↔ (IsLegal entries × IsLegalAfter entries entry)
legal_with entries entry = legal_before [] entries entry

are_apart : (n m : ℕ) → (n == m) ≡ false → m ≢ n
are_apart n m test = grind arith

-- the words of a line after a store
stored_row : (rows : List (List ℕ)) (entries : List Record) (at word value : ℕ)
    → ((line : ℕ) → line < length rows → words_in_row rows line ≡ last_words entries line) → at < length rows
    → (line : ℕ) → line < length rows
    → words_in_row (slice_set rows at (slice_set (words_in_row rows at) word value)) line ≡ (if at == line then slice_set (last_words entries line) word value else last_words entries line)
stored_row rows entries at word value is inside line below = go (at == line) refl
  where
    go : (b : Bool) → (at == line) ≡ b
        → words_in_row (slice_set rows at (slice_set (words_in_row rows at) word value)) line ≡ (if b then slice_set (last_words entries line) word value else last_words entries line)
    go true e = subst (λ k. words_in_row (slice_set rows at (slice_set (words_in_row rows at) word value)) k ≡ slice_set (last_words entries k) word value) (eqb-true at line e) (get_or-set_same rows at (slice_set (words_in_row rows at) word value) [] inside ∙ ap (λ words. slice_set words word value) (is at inside))
    go false e = get_or-set_other rows at line (slice_set (words_in_row rows at) word value) [] (are_apart at line e) ∙ is line below

pub counted_more : (n : ℕ) → n < most_counted → counted n ≡ n + 1
counted_more n low = rw (lt-ltb n most_counted low) refl

counted_few : (n : ℕ) → n ≤ most_counted → counted n ≤ most_counted
counted_few n few = go (nat_lt n most_counted) refl
  where
    go : (b : Bool) → nat_lt n most_counted ≡ b → (if b then n + 1 else n) ≤ most_counted
    go true low = omega (arith, ltb-true n most_counted low)
    go false high = few

-- the count of an agent's part after one record more
part_is : (parts : List ℕ) (entries : List Record) (entry : Record) (n : ℕ)
    → length parts ≡ 8 → (record_agent entry).0 < 8 → get_or parts n 0 ≡ length (part_of entries n) → get_or parts (record_agent entry).0 0 ≡ length (part_of entries (record_agent entry).0)
    → get_or parts (record_agent entry).0 0 < most_counted
    → get_or (part_counted parts (record_agent entry).0) n 0 ≡ length (part_of (entries ++ entry ∷ []) n)
part_is parts entries entry n eight low is own few = go (is_record_of n entry) refl ∙ sym (part_len_with entries entry n)
  where
    go : (b : Bool) → is_record_of n entry ≡ b → get_or (part_counted parts (record_agent entry).0) n 0 ≡ length (part_of entries n) + cond b 1 0
    go true e = subst (λ k. get_or (part_counted parts (record_agent entry).0) k 0 ≡ length (part_of entries k) + 1) (eqb-true (record_agent entry).0 n e) (get_or-set_same parts (record_agent entry).0 (counted (get_or parts (record_agent entry).0 0)) 0 (omega (arith, low, eight)) ∙ (counted_more (get_or parts (record_agent entry).0 0) few ∙ ap (λ k. k + 1) own))
    go false e = get_or-set_other parts (record_agent entry).0 n (counted (get_or parts (record_agent entry).0 0)) 0 (are_apart (record_agent entry).0 n e) ∙ is ∙ omega arith

-- whether a list is legal after a load, by whether it was
legal_load : (b same : Bool) (Before Next : Type 0) → b ≡ true ↔ Before → same ≡ true ↔ Next → (b && same) ≡ true ↔ (Before × Next)
legal_load true same Before Next was next = (λ h. (was.0 refl, next.0 h), λ h. next.1 h.1)
legal_load false same Before Next was next = (λ h. absurd (both h), λ h. absurd (both (was.1 h.0)))
  where
    both : false ≡ true → ⊥
    both h = cc

along : {A B C : Type 0} → A ↔ B → C ↔ B → A ↔ C
along f g = (λ a. g.1 (f.0 a), λ c. f.1 (g.0 c))

-- the test of a load's value
tested : (value : ℕ) (words last : List ℕ) (word : ℕ) → words ≡ last → (value == get_or words word 0) ≡ true ↔ (value ≡ get_or last word 0)
tested value words last word is = (λ e. eqb-true value (get_or words word 0) e ∙ ap (λ w. get_or w word 0) is, λ e. eq-eqb value (get_or words word 0) (e ∙ ap (λ w. get_or w word 0) (sym is)))

less_than : (n limit : ℕ) → n ≤ limit → (n == limit) ≡ false → n < limit
less_than n limit fits not_full = grind arith

pub fits_more : (entries : List Record) (entry : Record) (limit : ℕ) → length entries ≤ limit → (length entries == limit) ≡ false → length (entries ++ entry ∷ []) ≤ limit
fits_more entries entry limit fits not_full = omega (arith, less_than (length entries) limit fits not_full, length-append entries (entry ∷ []))

few_more : (part count n limit : ℕ) → part ≡ count → count ≤ n → n ≤ limit → (n == limit) ≡ false → limit < 2 ^ 32 → part < most_counted
few_more part count n limit is fits within not_full narrow = omega (arith, is, fits, less_than n limit within not_full, narrow)

-- the facts of an append
pub record Appends (entries : List Record) (limit capacity : ℕ) (rows : List (List ℕ)) (totals : JournalTotals) (entry : Record) : Type 0 where
  pub was : IsJournal entries limit capacity rows totals
  pub not_full : is_full (log_of entries limit rows totals) ≡ false
  pub agent : (record_agent entry).0 < 8
  pub line : (record_line entry).0 < length rows

-- where records are kept, there is room for one more
pub unfilled : (kept full : Bool) → kept ≡ true → (kept && full) ≡ false → full ≡ false
unfilled kept full keeps not_full = cc

loads_few : {entries : List Record} {limit capacity : ℕ} {rows : List (List ℕ)} {totals : JournalTotals} {entry : Record}
    → Appends entries limit capacity rows totals entry → IsTracked entries limit capacity rows totals → nat_lt 0 limit ≡ true → totals.loads < most_counted
loads_few {entries} {limit} {capacity} {rows} {totals} h t keeps =
    few_more totals.loads (loads_of entries) (length entries) limit t.loads_is (loads_fit entries) h.was.within (unfilled (nat_lt 0 limit) (length entries == limit) keeps h.not_full) h.was.narrow

stores_few : {entries : List Record} {limit capacity : ℕ} {rows : List (List ℕ)} {totals : JournalTotals} {entry : Record}
    → Appends entries limit capacity rows totals entry → IsTracked entries limit capacity rows totals → nat_lt 0 limit ≡ true → totals.stores < most_counted
stores_few {entries} {limit} {capacity} {rows} {totals} h t keeps =
    few_more totals.stores (stores_of entries) (length entries) limit t.stores_is (stores_fit entries) h.was.within (unfilled (nat_lt 0 limit) (length entries == limit) keeps h.not_full) h.was.narrow

part_few : {entries : List Record} {limit capacity : ℕ} {rows : List (List ℕ)} {totals : JournalTotals} {entry : Record}
    → Appends entries limit capacity rows totals entry → IsTracked entries limit capacity rows totals → nat_lt 0 limit ≡ true → get_or totals.parts (record_agent entry).0 0 < most_counted
part_few {entries} {limit} {capacity} {rows} {totals} {entry} h t keeps =
    few_more (get_or totals.parts (record_agent entry).0 0) (length (part_of entries (record_agent entry).0)) (length entries) limit (t.parts_is (record_agent entry).0 h.agent) (part_fits entries (record_agent entry).0) h.was.within
    (unfilled (nat_lt 0 limit) (length entries == limit) keeps h.not_full) h.was.narrow

tracked_after : (entries : List Record) (limit capacity : ℕ) (rows : List (List ℕ)) (totals : JournalTotals) (entry : Record)
    → Appends entries limit capacity rows totals entry → nat_lt 0 limit ≡ true → IsTracked entries limit capacity rows totals
    → IsTracked (entries ++ entry ∷ []) limit capacity (rows_after rows entry) (totals_with totals entry (value_at rows (record_line entry).0 (record_word entry).0))
tracked_after entries limit capacity rows totals (Load agent line word value) h keeps t = record {
  room = t.room;
  last_is = λ at below. t.last_is at below ∙ sym (last_words_with entries (Load agent line word value) at);
  loads_is = counted_more totals.loads (loads_few h t keeps) ∙ (ap (λ k. k + 1) t.loads_is ∙ sym (loads_with entries (Load agent line word value)));
  stores_is = t.stores_is ∙ sym (stores_with entries (Load agent line word value) ∙ omega arith);
  parts_is = λ n low. part_is totals.parts entries (Load agent line word value) n h.was.eight h.agent (t.parts_is n low) (t.parts_is agent.0 h.agent) (part_few h t keeps);
  legal_is = along (legal_load totals.legal (value == value_at rows line.0 word.0) (IsLegal entries) (value ≡ last_value entries line.0 word.0) t.legal_is (tested value (words_in_row rows line.0) (last_words entries line.0) word.0 (t.last_is line.0 h.line))) (legal_with entries (Load agent line word value));
}
tracked_after entries limit capacity rows totals (Store agent line word value) h keeps t = record {
  room = t.room;
  last_is = λ at below. stored_row rows entries line.0 word.0 value t.last_is h.line at (subst (λ k. at < k) (length-set rows line.0 _) below) ∙ sym (last_words_with entries (Store agent line word value) at);
  loads_is = t.loads_is ∙ sym (loads_with entries (Store agent line word value) ∙ omega arith);
  stores_is = counted_more totals.stores (stores_few h t keeps) ∙ (ap (λ k. k + 1) t.stores_is ∙ sym (stores_with entries (Store agent line word value)));
  parts_is = λ n low. part_is totals.parts entries (Store agent line word value) n h.was.eight h.agent (t.parts_is n low) (t.parts_is agent.0 h.agent) (part_few h t keeps);
  legal_is = (λ b. (legal_with entries (Store agent line word value)).1 (t.legal_is.0 b, tt), λ legal. t.legal_is.1 ((legal_with entries (Store agent line word value)).0 legal).0);
}

-- the counts of a load or a store more
pub eight_with : (totals : JournalTotals) (entry : Record) (last : ℕ) → length totals.parts ≡ 8 → length (totals_with totals entry last).parts ≡ 8
eight_with totals (Load agent line word value) last eight = length-set totals.parts agent.0 _ ∙ eight
eight_with totals (Store agent line word value) last eight = length-set totals.parts agent.0 _ ∙ eight

few_loads_with : (totals : JournalTotals) (entry : Record) (last : ℕ) → totals.loads ≤ most_counted → (totals_with totals entry last).loads ≤ most_counted
few_loads_with totals (Load agent line word value) last few = counted_few totals.loads few
few_loads_with totals (Store agent line word value) last few = few

few_stores_with : (totals : JournalTotals) (entry : Record) (last : ℕ) → totals.stores ≤ most_counted → (totals_with totals entry last).stores ≤ most_counted
few_stores_with totals (Load agent line word value) last few = few
few_stores_with totals (Store agent line word value) last few = counted_few totals.stores few

-- a journal with records, after one more
recorded : (entries : List Record) (limit capacity : ℕ) (rows : List (List ℕ)) (totals : JournalTotals) (entry : Record)
    → Appends entries limit capacity rows totals entry → nat_lt 0 limit ≡ true
    → IsJournal (entries ++ entry ∷ []) limit capacity (rows_after rows entry) (totals_with totals entry (value_at rows (record_line entry).0 (record_word entry).0))
recorded entries limit capacity rows totals entry h keeps = record {
  narrow = h.was.narrow;
  within = fits_more entries entry limit h.was.within (unfilled (nat_lt 0 limit) (length entries == limit) keeps h.not_full);
  eight = eight_with totals entry _ h.was.eight;
  few_loads = few_loads_with totals entry _ h.was.few_loads;
  few_stores = few_stores_with totals entry _ h.was.few_stores;
  tracked = λ b. tracked_after entries limit capacity rows totals entry h keeps (h.was.tracked keeps);
}

-- and one without, after one load or store more
unrecorded : (entries : List Record) (limit capacity : ℕ) (rows : List (List ℕ)) (totals : JournalTotals) (entry : Record)
    → Appends entries limit capacity rows totals entry → nat_lt 0 limit ≡ false
    → IsJournal entries limit capacity (rows_after rows entry) (totals_with totals entry (value_at rows (record_line entry).0 (record_word entry).0))
unrecorded entries limit capacity rows totals entry h none = record {
  narrow = h.was.narrow;
  within = h.was.within;
  eight = eight_with totals entry _ h.was.eight;
  few_loads = few_loads_with totals entry _ h.was.few_loads;
  few_stores = few_stores_with totals entry _ h.was.few_stores;
  tracked = λ b. absurd (true≢false (sym b ∙ none));
}

pub length_after : (rows : List (List ℕ)) (entry : Record) → length (rows_after rows entry) ≡ length rows
length_after rows (Load agent line word value) = refl
length_after rows (Store agent line word value) = length-set rows line.0 _

-- what was counted and followed
counted_value : (rows : List (List ℕ)) (entry : Record) (line : Line) (word : WordNo) (last : ℕ) → last ≡ value_at rows line.0 word.0 → line ≡ record_line entry → word ≡ record_word entry
    → last ≡ value_at rows (record_line entry).0 (record_word entry).0
counted_value rows entry line word last is_last is_line is_word = is_last ∙ ap (λ l. value_at rows l.0 word.0) is_line ∙ ap (λ w. value_at rows (record_line entry).0 w.0) is_word

-- the same, of what was counted and pushed
pub tracked_new : (entries new : List Record) (limit capacity grown : ℕ) (rows next : List (List ℕ)) (totals counts : JournalTotals) (entry : Record) (line : Line) (word : WordNo) (last : ℕ)
    → Appends entries limit capacity rows totals entry → nat_lt 0 limit ≡ true
    → new ≡ entries ++ entry ∷ [] → grown ≡ capacity → next ≡ rows_after rows entry → counts ≡ totals_with totals entry last
    → last ≡ value_at rows line.0 word.0 → line ≡ record_line entry → word ≡ record_word entry
    → IsJournal new limit grown next counts
tracked_new entries new limit capacity grown rows next totals counts entry line word last h keeps is_new is_grown is_next is_grow is_last is_line is_word =
    rw (is_new, is_grown, is_next, is_grow, counted_value rows entry line word last is_last is_line is_word) (recorded entries limit capacity rows totals entry h keeps)

-- and of what was counted alone
pub counted_new : (entries : List Record) (limit capacity : ℕ) (rows next : List (List ℕ)) (totals counts : JournalTotals) (entry : Record) (line : Line) (word : WordNo) (last : ℕ)
    → Appends entries limit capacity rows totals entry → nat_lt 0 limit ≡ false
    → next ≡ rows_after rows entry → counts ≡ totals_with totals entry last
    → last ≡ value_at rows line.0 word.0 → line ≡ record_line entry → word ≡ record_word entry
    → IsJournal entries limit capacity next counts
counted_new entries limit capacity rows next totals counts entry line word last h none is_next is_grow is_last is_line is_word =
    rw (is_next, is_grow, counted_value rows entry line word last is_last is_line is_word) (unrecorded entries limit capacity rows totals entry h none)

-- the log that is left, where records are kept
pub recorded_log : (entries new : List Record) (limit : ℕ) (rows next : List (List ℕ)) (totals counts : JournalTotals) (entry : Record) → nat_lt 0 limit ≡ true
    → new ≡ entries ++ entry ∷ [] → next ≡ rows_after rows entry → log_of new limit next counts ≡ log_with (log_of entries limit rows totals) entry
recorded_log entries new limit rows next totals counts entry keeps is_new is_next =
    rw (keeps, is_new, is_next, length_after rows entry) refl

-- and where they aren't
pub counted_log : (entries : List Record) (limit : ℕ) (rows next : List (List ℕ)) (totals counts : JournalTotals) (entry : Record) (line : Line) (word : WordNo) (last : ℕ) → nat_lt 0 limit ≡ false
    → next ≡ rows_after rows entry → counts ≡ totals_with totals entry last
    → last ≡ value_at rows line.0 word.0 → line ≡ record_line entry → word ≡ record_word entry
    → log_of entries limit next counts ≡ log_with (log_of entries limit rows totals) entry
counted_log entries limit rows next totals counts entry line word last none is_next is_grow is_last is_line is_word =
    rw (none, is_next, is_grow, counted_value rows entry line word last is_last is_line is_word, length_after rows entry) refl

-- a journal without records, of any last words, and of counts that are no more than the most
pub unrecorded_journal : (capacity : ℕ) (rows : List (List ℕ)) (totals : JournalTotals) → length totals.parts ≡ 8 → are_counts totals ≡ true → IsJournal [] 0 capacity rows totals
unrecorded_journal capacity rows totals eight few = record {
  narrow = omega arith;
  within = omega arith;
  eight = eight;
  few_loads = leb-true totals.loads most_counted (and_parts (nat_le totals.loads most_counted) (nat_le totals.stores most_counted) few).0;
  few_stores = leb-true totals.stores most_counted (and_parts (nat_le totals.loads most_counted) (nat_le totals.stores most_counted) few).1;
  tracked = λ b. absurd (true≢false (sym b));
}

pub no_words_at : (n line : ℕ) → line < n → no_words ≡ words_in_row (replicate n no_words) line
no_words_at n line low = sym (get_or-replicate n line no_words [] low)
