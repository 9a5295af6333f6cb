-- The first column of a text, by its bytes.
use Rattle.std.proofs.Common.{◌≡◌, ℕ, zero, suc, ◌+◌, ◌-◌, ◌<◌, ◌≤◌, List, [], ◌∷◌, ◌++◌, Bool, true, false, not, cond, length, get_or, nat_lt, take, drop, filter, Some, None, refl, sym, ap, subst, ◌∙◌, arith, ⊎_elim}
use Rattle.std.specs.List.{position, position_or_len}
use Rattle.std.proofs.lemmas.Bool.{cases_lt}
use Rattle.std.proofs.lemmas.Bool.Decides.{nat_tests}
use Rattle.std.proofs.lemmas.List.{drop-drop, drop_all, get_or-drop, get_or_past, length-drop, take-append-drop, take_rest}
use Rattle.std.proofs.lemmas.List.Quantifiers.{position-Some}
use Rattle.std.proofs.lemmas.List.Splits.{slice_split-cons_yes, slice_split_at, slice_split_none}
use Rattle.std.proofs.lemmas.List.Sums.{fails_before_first}
use Rattle.std.proofs.lemmas.Simd.{get_or-chunk, length-chunk}
use Rattle.std.proofs.Math.Seq.{drop-cons}
use Rattle.chi_lanes.specs.Columns.{blank_at, columns_of, has_bytes}
use Rattle.chi_lanes.specs.Cursors.{IsEnd, IsStart}
use Rattle.chi_lanes.specs.Masks.{is_blank}

-- blanks in front
behind_blank : (b : ℕ) (bs : List ℕ) → is_blank b ≡ true → columns_of (b ∷ bs) ≡ columns_of bs
unfolding columns_of
behind_blank b bs is = ap (filter has_bytes) (slice_split-cons_yes is_blank b bs is)

abbrev pub AllBlank : List ℕ → ℕ → Type 0
AllBlank text i = (k : ℕ) → k < i → blank_at text k ≡ true

pub blanks_alone : (text : List ℕ) → AllBlank text (length text) → columns_of text ≡ []
unfolding columns_of
blanks_alone [] all = refl
blanks_alone (b ∷ bs) all = behind_blank b bs (all 0 (omega arith)) ∙ blanks_alone bs (λ k low. all (suc k) (omega arith))

no_columns : columns_of [] ≡ []
unfolding columns_of
no_columns = refl

-- a column in front
has_some : (text : List ℕ) (size : ℕ) → 0 < size → size ≤ length text → has_bytes (take size text) ≡ true
has_some [] size some within = absurd (omega (arith, some, within))
has_some (b ∷ bs) zero some within = absurd (omega (arith, some))
has_some (b ∷ bs) (suc size) some within = refl

abbrev pub IsColumn : List ℕ → ℕ → ℕ → Type 0
IsColumn text start size = (k : ℕ) → k < size → blank_at text (start + k) ≡ false

cut_in_two : (text : List ℕ) (size : ℕ) → size < length text → text ≡ take size text ++ (get_or text size 32 ∷ drop (size + 1) text)
cut_in_two text size low =
    let next : suc size ≡ size + 1 = omega arith in
    sym (take-append-drop size text) ∙ ap (λ rest. take size text ++ rest) (drop-cons text size 32 low ∙ ap (λ j. get_or text size 32 ∷ drop j text) next)

no_blank : (text : List ℕ) (size : ℕ) → size ≤ length text → IsColumn text 0 size → (k : ℕ) (d : ℕ) → k < length (take size text) → is_blank (get_or (take size text) k d) ≡ false
no_blank text size within column k d low =
    let long : length (take size text) ≡ size = length-chunk 0 size text (omega arith) in
    let under : k < size = omega arith in
    let here : 0 + k ≡ k = omega arith in
    ap is_blank (get_or-chunk 0 size text k d under ∙ (ap (λ j. get_or text j d) here ∙ same_default text k d (omega arith)))
    ∙ subst (λ j. blank_at text j ≡ false) here (column k under)
  where
    same_default : (xs : List ℕ) (j e : ℕ) → j < length xs → get_or xs j e ≡ get_or xs j 32
    same_default [] j e l = absurd (omega (arith, l))
    same_default (x ∷ xs) zero e l = refl
    same_default (x ∷ xs) (suc j) e l = same_default xs j e (omega (arith, l))

column_cut : (text : List ℕ) (size : ℕ) → 0 < size → size < length text → IsColumn text 0 size → blank_at text size ≡ true → columns_of text ≡ take size text ∷ columns_of (drop (size + 1) text)
unfolding columns_of
column_cut text size some low column ends =
    ap columns_of (cut_in_two text size low)
    ∙ (ap (filter has_bytes) (slice_split_at is_blank (take size text) (get_or text size 32) (drop (size + 1) text) (no_blank text size (omega arith) column) ends)
    ∙ ap (λ b. cond b (take size text ∷ columns_of (drop (size + 1) text)) (columns_of (drop (size + 1) text))) (has_some text size some (omega arith)))

take_whole : (xs : List ℕ) → take (length xs) xs ≡ xs
take_whole [] = refl
take_whole (x ∷ xs) = ap (λ rest. x ∷ rest) (take_whole xs)

column_whole : (text : List ℕ) (size : ℕ) → 0 < size → size ≡ length text → IsColumn text 0 size → columns_of text ≡ take size text ∷ columns_of (drop (size + 1) text)
unfolding columns_of
column_whole text size some e column =
    let whole : take size text ≡ text = ap (λ n. take n text) e ∙ take_whole text in
    let bare = subst (λ (xs : List ℕ). (k : ℕ) (d : ℕ) → k < length xs → is_blank (get_or xs k d) ≡ false) whole (no_blank text size (omega arith) column) in
    let has = subst (λ (xs : List ℕ). has_bytes xs ≡ true) whole (has_some text size some (omega arith)) in
    ap (filter has_bytes) (slice_split_none is_blank text bare)
    ∙ (ap (λ b. cond b (text ∷ []) []) has
    ∙ ((λ i. sym whole i ∷ sym no_columns i) ∙ ap (λ rest. take size text ∷ columns_of rest) (sym (drop_all (size + 1) text (omega arith)))))

column_first : (text : List ℕ) (size : ℕ) → 0 < size → size ≤ length text → IsColumn text 0 size → blank_at text size ≡ true → columns_of text ≡ take size text ∷ columns_of (drop (size + 1) text)
column_first text size some within column ends =
    ⊎_elim (λ low. column_cut text size some low column ends) (λ high. column_whole text size some (omega arith) column) (cases_lt size (length text))

-- blanks, and then a column
pub column_at : (text : List ℕ) (start size : ℕ) → 0 < size → start + size ≤ length text → AllBlank text start → IsColumn text start size → blank_at text (start + size) ≡ true
    → columns_of text ≡ take size (drop start text) ∷ columns_of (drop (start + size + 1) text)
column_at text zero size some within blanks column ends =
    let same : 0 + size ≡ size = omega arith in
    column_first text size some (omega arith) column (subst (λ n. blank_at text n ≡ true) same ends) ∙ ap (λ n. take size text ∷ columns_of (drop (n + 1) text)) (sym same)
column_at [] (suc start) size some within blanks column ends = absurd (omega (arith, within))
column_at (b ∷ bs) (suc start) size some within blanks column ends =
    let next : suc start + size + 1 ≡ suc (start + size + 1) = omega arith in
    let at = λ (k : ℕ). let e : suc start + k ≡ suc (start + k) = omega arith in e in
    behind_blank b bs (blanks 0 (omega arith))
    ∙ (column_at bs start size some (omega arith) (λ k low. blanks (suc k) (omega arith)) (λ k low. subst (λ n. blank_at (b ∷ bs) n ≡ false) (at k) (column k low))
    (subst (λ n. blank_at (b ∷ bs) n ≡ true) (at size) ends)
    ∙ ap (λ n. take size (drop start bs) ∷ columns_of (drop n (b ∷ bs))) (sym next))

-- a place in a line, counted from another on
back : (from k : ℕ) → from ≤ k → from + (k - from) ≡ k
back from k h = omega arith

behind_at : (line : List ℕ) (from k : ℕ) → from ≤ k → blank_at (drop from line) (k - from) ≡ blank_at line k
behind_at line from k h = ap is_blank (get_or-drop from line (k - from) 32) ∙ ap (blank_at line) (back from k h)

ahead_at : (line : List ℕ) (from k : ℕ) → blank_at (drop from line) k ≡ blank_at line (from + k)
ahead_at line from k = ap is_blank (get_or-drop from line k 32)

-- what a search for the first byte that is no blank finds
not_true : (b : Bool) → not b ≡ true → b ≡ false
not_true true e = absurd (cc e)
not_true false e = refl

not_false : (b : Bool) → not b ≡ false → b ≡ true
not_false true e = refl
not_false false e = absurd (cc e)

nowhere : (n m : ℕ) → None ≡ cond (nat_lt n m) (Some n) None → m ≤ n
nowhere n m e = grind (arith, nat_tests)

abbrev bare : ℕ → Bool
bare b = not (is_blank b)

pub start_some : (line : List ℕ) (at start : ℕ) → Some start ≡ position bare (drop at line) → IsStart line at (at + start)
start_some line at start e =
    let rest = drop at line in
    let place = position-Some bare rest start 32 (sym e) in
    let low : start < length rest = place.0 in
    let long : length rest ≡ length line - at = length-drop at line in
    record {
      within = omega arith;
      blanks = λ k from under. sym (behind_at line at k from) ∙ not_false (blank_at rest (k - at)) (place.2 (k - at) (omega arith));
      found = λ inside. (omega arith, sym (ahead_at line at start) ∙ not_true (blank_at rest start) place.1);
    }

pub start_none : (line : List ℕ) (at : ℕ) → None ≡ position bare (drop at line) → IsStart line at (length line)
start_none line at e =
    let rest = drop at line in
    let all : length rest ≤ position_or_len bare rest = nowhere (position_or_len bare rest) (length rest) e in
    let long : length rest ≡ length line - at = length-drop at line in
    record {
      within = omega arith;
      blanks = λ k from under. sym (behind_at line at k from) ∙ not_false (blank_at rest (k - at)) (fails_before_first bare rest (k - at) 32 (omega arith));
      found = λ inside. absurd (omega (arith, inside));
    }

-- and for the first blank
pub end_some : (line : List ℕ) (start size : ℕ) → start ≤ length line → Some size ≡ position is_blank (take (length line - start) (drop start line)) → IsEnd line start (start + size)
end_some line start size room e =
    let rest = drop start line in
    let place = position-Some is_blank rest size 32 (sym (e ∙ ap (position is_blank) (take_rest line start))) in
    let low : size < length rest = place.0 in
    let long : length rest ≡ length line - start = length-drop start line in
    record {
      from = omega arith;
      within = omega arith;
      column = λ k from under. sym (behind_at line start k from) ∙ place.2 (k - start) (omega arith);
      ends = sym (ahead_at line start size) ∙ place.1;
    }

pub end_none : (line : List ℕ) (start : ℕ) → start ≤ length line → None ≡ position is_blank (take (length line - start) (drop start line)) → IsEnd line start (length line)
end_none line start room e =
    let rest = drop start line in
    let all : length rest ≤ position_or_len is_blank rest = nowhere (position_or_len is_blank rest) (length rest) (e ∙ ap (position is_blank) (take_rest line start)) in
    let long : length rest ≡ length line - start = length-drop start line in
    record {
      from = room;
      within = omega arith;
      column = λ k from under. sym (behind_at line start k from) ∙ fails_before_first is_blank rest (k - start) 32 (omega arith);
      ends = ap is_blank (get_or_past line (length line) 32 (omega arith));
    }

-- the columns of a line from a place on, by where the next begins and ends
pub ordered : (line : List ℕ) (at start end : ℕ) → IsStart line at start → start < length line → IsEnd line start end → start < end
ordered line at start end begins inside ends =
    ⊎_elim (λ low. low) (λ high.
    let from : start ≤ end = ends.from in
    let same : start ≡ end = omega arith in
    let e : false ≡ true = sym (begins.found inside).1 ∙ (ap (blank_at line) same ∙ ends.ends) in
    absurd (cc e)) (cases_lt start end)

pub next_is : (line : List ℕ) (at start end : ℕ) → IsStart line at start → start < length line → IsEnd line start end → columns_of (drop at line) ≡ take (end - start) (drop start line) ∷ columns_of (drop (end + 1) line)
next_is line at start end begins inside ends =
    let from : at ≤ start = (begins.found inside).0 in
    let low : start < end = ordered line at start end begins inside ends in
    let within : end ≤ length line = ends.within in
    let text = drop at line in
    let long : length text ≡ length line - at = length-drop at line in
    let skip = start - at in
    let size = end - start in
    let last : at + (skip + size) ≡ end = omega arith in
    let first : at + skip ≡ start = omega arith in
    let rest : at + (skip + size + 1) ≡ end + 1 = omega arith in
    let moved = λ (k : ℕ). let e : at + (skip + k) ≡ start + k = omega arith in e in
    column_at text skip size (omega arith) (omega arith) (λ k under. ahead_at line at k ∙ begins.blanks (at + k) (omega arith) (omega arith))
    (λ k under. ahead_at line at (skip + k) ∙ (ap (blank_at line) (moved k) ∙ ends.column (start + k) (omega arith) (omega arith)))
    (ahead_at line at (skip + size) ∙ (ap (blank_at line) last ∙ ends.ends))
    ∙ (λ i. take size ((drop-drop skip at line ∙ ap (λ n. drop n line) first) i) ∷ columns_of ((drop-drop (skip + size + 1) at line ∙ ap (λ n. drop n line) rest) i))

pub none_next : (line : List ℕ) (at start : ℕ) → IsStart line at start → start ≡ length line → columns_of (drop at line) ≡ []
none_next line at start begins e =
    let long : length (drop at line) ≡ length line - at = length-drop at line in
    blanks_alone (drop at line) (λ k low. ahead_at line at k ∙ begins.blanks (at + k) (omega arith) (omega arith))

-- blanks in front may be left out
skipped : (text : List ℕ) (n : ℕ) → AllBlank text n → n ≤ length text → columns_of (drop n text) ≡ columns_of text
skipped text zero all room = refl
skipped [] (suc n) all room = absurd (omega (arith, room))
skipped (b ∷ bs) (suc n) all room = skipped bs n (λ k low. all (suc k) (omega arith)) (omega (arith, room)) ∙ sym (behind_blank b bs (all 0 (omega arith)))

pub rest_is : (line : List ℕ) (at start : ℕ) → IsStart line at start → columns_of (drop start line) ≡ columns_of (drop at line)
rest_is line at start begins =
    let room : start ≤ length line = begins.within in
    let long : length (drop at line) ≡ length line - at = length-drop at line in
    ⊎_elim (λ inside.
    let from : at ≤ start = (begins.found inside).0 in
    let there : at + (start - at) ≡ start = omega arith in
    ap columns_of (sym (drop-drop (start - at) at line ∙ ap (λ n. drop n line) there))
    ∙ skipped (drop at line) (start - at) (λ k low. ahead_at line at k ∙ begins.blanks (at + k) (omega arith) (omega arith)) (omega arith)) (λ past.
    let same : start ≡ length line = omega arith in
    ap columns_of (drop_all start line past) ∙ (no_columns ∙ sym (none_next line at start begins same))) (cases_lt start (length line))

pub rest_first : (line : List ℕ) (at start : ℕ) → IsStart line at start → 0 < length (drop start line) → blank_at (drop start line) 0 ≡ false
rest_first line at start begins some =
    let inside : start < length line = omega (arith, length-drop start line) in
    let here : start + 0 ≡ start = omega arith in
    ahead_at line start 0 ∙ (ap (blank_at line) here ∙ (begins.found inside).1)
