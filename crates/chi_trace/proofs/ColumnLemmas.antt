-- The columns of a line by its words, none of which is empty.
use Rattle.std.proofs.Common.{◌≡◌, ℕ, ◌≤◌, ◌==◌, ◌&&◌, Bool, true, false, cond, List, [], ◌∷◌, length, None, filter, refl, sym, ◌∙◌, arith}
use Rattle.std.proofs.lemmas.Bool.Decides.{nat_tests}
use Rattle.std.specs.List.{list_all, slice_split}
use Rattle.chi_trace.specs.Columns.{Row, first_word_of, row_behind, row_if}
use Rattle.chi_trace.specs.Words.{blank_words, has_bytes, is_blank, word_or_empty, words_behind}

-- words with bytes alone are left
kept_case : (x : List ℕ) (ys : List (List ℕ)) (b : Bool) → has_bytes x ≡ b → list_all has_bytes ys ≡ true → list_all has_bytes (cond b (x ∷ ys) ys) ≡ true
kept_case x ys true e all = rw (e, all) refl
kept_case x ys false e all = all

kept : (xs : List (List ℕ)) → list_all has_bytes (filter has_bytes xs) ≡ true
kept [] = refl
kept (x ∷ xs) = kept_case x (filter has_bytes xs) (has_bytes x) refl (kept xs)

all_have : (line : List ℕ) → list_all has_bytes (blank_words line) ≡ true
unfolding blank_words
all_have line = kept (slice_split is_blank line)

pub empty : (text : List ℕ) → (length text == 0) ≡ true → text ≡ []
empty [] e = refl
empty (b ∷ bs) e = absurd (let no : 1 ≤ 0 = grind (arith, nat_tests) in omega (arith, no))

none_of : (words : List (List ℕ)) → list_all has_bytes words ≡ true → word_or_empty words ≡ [] → None ≡ first_word_of words
none_of [] all e = refl
none_of ([] ∷ words) all e = absurd (cc (all))
none_of ((b ∷ bs) ∷ words) all e = absurd (cc (e))

-- a line whose first word is empty has none
pub none_first : (line text : List ℕ) → text ≡ word_or_empty (blank_words line) → (length text == 0) ≡ true → None ≡ first_word_of (blank_words line)
none_first line text e is = none_of (blank_words line) (all_have line) (sym e ∙ empty text is)

-- two words further
abbrev second : List (List ℕ) → List (List ℕ)
second words = words_behind (words_behind words)

abbrev pub row_from : List ℕ → List (List ℕ) → Row
row_from channel words = record {
  channel = channel;
  source = word_or_empty words;
  target = word_or_empty (words_behind words);
  txn = word_or_empty (second words);
  opcode = word_or_empty (words_behind (second words));
  address = word_or_empty (second (second words));
  resp = word_or_empty (words_behind (second (second words)));
  dbid = word_or_empty (second (second (second words)));
  allow_retry = word_or_empty (words_behind (second (second (second words))));
  pcrd = word_or_empty (second (second (second (second words))));
  payload = word_or_empty (words_behind (second (second (second (second words)))));
}

others : (b c : Bool) → (b && c) ≡ true → c ≡ true
others true c all = all
others false c all = absurd (cc (all))

this : (b c : Bool) → (b && c) ≡ true → b ≡ true
this true c all = refl
this false c all = absurd (cc (all))

rest_all : (word : List ℕ) (words : List (List ℕ)) → list_all has_bytes (word ∷ words) ≡ true → list_all has_bytes words ≡ true
rest_all word words all = others (has_bytes word) (list_all has_bytes words) all

tenth : (channel w1 w2 w3 w4 w5 w6 w7 w8 w9 w10 : List ℕ) (words : List (List ℕ)) → has_bytes w10 ≡ true
    → row_if (row_from channel (w1 ∷ w2 ∷ w3 ∷ w4 ∷ w5 ∷ w6 ∷ w7 ∷ w8 ∷ w9 ∷ w10 ∷ words)) ≡ row_behind channel (w1 ∷ w2 ∷ w3 ∷ w4 ∷ w5 ∷ w6 ∷ w7 ∷ w8 ∷ w9 ∷ w10 ∷ words)
tenth channel w1 w2 w3 w4 w5 w6 w7 w8 w9 w10 words has = rw has refl

rows : (channel : List ℕ) (words : List (List ℕ)) → list_all has_bytes words ≡ true → row_if (row_from channel words) ≡ row_behind channel words
rows channel [] all = refl
rows channel (w1 ∷ []) all = refl
rows channel (w1 ∷ w2 ∷ []) all = refl
rows channel (w1 ∷ w2 ∷ w3 ∷ []) all = refl
rows channel (w1 ∷ w2 ∷ w3 ∷ w4 ∷ []) all = refl
rows channel (w1 ∷ w2 ∷ w3 ∷ w4 ∷ w5 ∷ []) all = refl
rows channel (w1 ∷ w2 ∷ w3 ∷ w4 ∷ w5 ∷ w6 ∷ []) all = refl
rows channel (w1 ∷ w2 ∷ w3 ∷ w4 ∷ w5 ∷ w6 ∷ w7 ∷ []) all = refl
rows channel (w1 ∷ w2 ∷ w3 ∷ w4 ∷ w5 ∷ w6 ∷ w7 ∷ w8 ∷ []) all = refl
rows channel (w1 ∷ w2 ∷ w3 ∷ w4 ∷ w5 ∷ w6 ∷ w7 ∷ w8 ∷ w9 ∷ []) all = refl
rows channel (w1 ∷ w2 ∷ w3 ∷ w4 ∷ w5 ∷ w6 ∷ w7 ∷ w8 ∷ w9 ∷ w10 ∷ words) all =
    let third = rest_all w3 (w4 ∷ w5 ∷ w6 ∷ w7 ∷ w8 ∷ w9 ∷ w10 ∷ words) (rest_all w2 (w3 ∷ w4 ∷ w5 ∷ w6 ∷ w7 ∷ w8 ∷ w9 ∷ w10 ∷ words) (rest_all w1 (w2 ∷ w3 ∷ w4 ∷ w5 ∷ w6 ∷ w7 ∷ w8 ∷ w9 ∷ w10 ∷ words) all)) in
    let sixth = rest_all w6 (w7 ∷ w8 ∷ w9 ∷ w10 ∷ words) (rest_all w5 (w6 ∷ w7 ∷ w8 ∷ w9 ∷ w10 ∷ words) (rest_all w4 (w5 ∷ w6 ∷ w7 ∷ w8 ∷ w9 ∷ w10 ∷ words) third)) in
    let ninth = rest_all w9 (w10 ∷ words) (rest_all w8 (w9 ∷ w10 ∷ words) (rest_all w7 (w8 ∷ w9 ∷ w10 ∷ words) sixth)) in
    tenth channel w1 w2 w3 w4 w5 w6 w7 w8 w9 w10 words (this (has_bytes w10) (list_all has_bytes words) ninth)

pub row_is : (channel line : List ℕ) → row_if (row_from channel (blank_words line)) ≡ row_behind channel (blank_words line)
row_is channel line = rows channel (blank_words line) (all_have line)
