-- The first word of a line.
use Rattle.std.proofs.Common.{◌≡◌, ℕ, suc, ◌+◌, ◌-◌, ◌<◌, ◌≤◌, Bool, true, false, not, cond, nat_lt, List, [], ◌∷◌, length, take, drop, Some, None, filter, refl, ap, sym, subst, ◌∙◌, get_or, Option, arith}
use Rattle.std.specs.List.{position, position_or_len, prefix_len}
use Rattle.std.proofs.lemmas.Bool.Decides.{nat_tests}
use Rattle.std.specs.Option.{unwrap_or}
use Rattle.std.proofs.lemmas.List.{drop_all, take_rest}
use Rattle.std.proofs.lemmas.List.Splits.{slice_split-cons_yes}
use Rattle.std.proofs.lemmas.List.Sums.{position_or_len_is}
use Rattle.memchr.specs.Find.{IsFirstByte, is_byte3}
use Rattle.chi_script.proofs.LineLemmas.{cut_at, uncut}
use Rattle.chi_trace.specs.Columns.{first_word_of}
use Rattle.chi_trace.specs.Words.{begins_in_word, blank_words, has_bytes, is_blank, word_or_empty, words_behind}

-- what was found, or not, of a test on two numbers
found : (n m i : ℕ) → Some i ≡ cond (nat_lt n m) (Some n) None → (n < m) × (i ≡ n)
found n m i e = grind (arith, nat_tests)

not_found : (n m : ℕ) → None ≡ cond (nat_lt n m) (Some n) None → m ≤ n
not_found n m e = grind (arith, nat_tests)

-- a blank more in front changes nothing
behind_blank : (b : ℕ) (bs : List ℕ) → is_blank b ≡ true → blank_words (b ∷ bs) ≡ blank_words bs
unfolding blank_words
behind_blank b bs is = ap (filter has_bytes) (slice_split-cons_yes is_blank b bs is)

abbrev pub begins : List ℕ → Bool
begins [] = false
begins (b ∷ bs) = not (is_blank b)

-- how many blanks stand in front
abbrev blanks : List ℕ → ℕ
blanks xs = prefix_len (λ b. not (not (is_blank b))) xs

blanks_yes : (b : ℕ) (bs : List ℕ) → is_blank b ≡ true → blanks (b ∷ bs) ≡ suc (blanks bs)
blanks_yes b bs is = ap (λ (v : Bool). cond (not (not v)) (1 + blanks bs) 0) is ∙ omega arith

blanks_no : (b : ℕ) (bs : List ℕ) → is_blank b ≡ false → blanks (b ∷ bs) ≡ 0
blanks_no b bs is = ap (λ (v : Bool). cond (not (not v)) (1 + blanks bs) 0) is

-- the same words, and no blank in front
pub record IsText (xs text : List ℕ) : Type 0 where
  pub same : blank_words text ≡ blank_words xs
  pub first : begins text ≡ true

text_case : (b : ℕ) (bs : List ℕ) (blank : Bool) → is_blank b ≡ blank → blanks (b ∷ bs) < length (b ∷ bs)
    → (blanks bs < length bs → IsText bs (drop (blanks bs) bs)) → IsText (b ∷ bs) (drop (blanks (b ∷ bs)) (b ∷ bs))
text_case b bs true is low go =
    let e = blanks_yes b bs is in
    let rest = go (omega (arith, e, low)) in
    subst (λ (n : ℕ). IsText (b ∷ bs) (drop n (b ∷ bs))) (sym e) (record { same = rest.same ∙ sym (behind_blank b bs is); first = rest.first })
text_case b bs false is low go =
    subst (λ (n : ℕ). IsText (b ∷ bs) (drop n (b ∷ bs))) (sym (blanks_no b bs is)) (record { same = refl; first = ap not is })

text_of : (xs : List ℕ) → blanks xs < length xs → IsText xs (drop (blanks xs) xs)
text_of [] low = absurd (omega (arith, low))
text_of (b ∷ bs) low = text_case b bs (is_blank b) refl low (text_of bs)

all_case : (b : ℕ) (bs : List ℕ) (blank : Bool) → is_blank b ≡ blank → length (b ∷ bs) ≤ blanks (b ∷ bs) → (length bs ≤ blanks bs → blank_words bs ≡ []) → blank_words (b ∷ bs) ≡ []
all_case b bs true is le go = behind_blank b bs is ∙ go (omega (arith, blanks_yes b bs is, le))
all_case b bs false is le go = absurd (omega (arith, blanks_no b bs is, le))

all_blank : (xs : List ℕ) → length xs ≤ blanks xs → blank_words xs ≡ []
unfolding blank_words
all_blank [] le = refl
all_blank (b ∷ bs) le = all_case b bs (is_blank b) refl le (all_blank bs)

has_first : (text : List ℕ) (i : ℕ) → begins text ≡ true → Some i ≡ position is_blank text → has_bytes (take i text) ≡ true
has_first [] i first e = absurd (cc (first))
has_first (b ∷ bs) i first e =
    let at = found (position_or_len is_blank (b ∷ bs)) (length (b ∷ bs)) i e in
    let one : position_or_len is_blank (b ∷ bs) ≡ suc (prefix_len (λ x. not (is_blank x)) bs) = ap (λ (v : Bool). cond v (1 + prefix_len (λ x. not (is_blank x)) bs) 0) first ∙ omega arith in
    subst (λ (n : ℕ). has_bytes (take n (b ∷ bs)) ≡ true) (sym (at.1 ∙ one)) refl

has_all : (text : List ℕ) → begins text ≡ true → has_bytes text ≡ true
has_all [] first = absurd (cc (first))
has_all (b ∷ bs) first = refl

-- what stands behind the blank at a place
abbrev behind : List ℕ → ℕ → List ℕ
behind text i = take (length text - (i + 1)) (drop (i + 1) text)

first_cut : (text : List ℕ) (i : ℕ) → begins text ≡ true → Some i ≡ position is_blank text → first_word_of (blank_words text) ≡ Some (take i text, blank_words (behind text i))
unfolding blank_words
first_cut text i first e =
    let cut = cut_at is_blank text 0 i e in
    let some = has_first text i first e in
    rw (cut.0, some) refl

first_whole : (text : List ℕ) → begins text ≡ true → None ≡ position is_blank text → first_word_of (blank_words text) ≡ Some (text, blank_words [])
unfolding blank_words
first_whole text first e =
    let some = has_all text first in
    rw (uncut is_blank text e, some) refl

-- the line from its first byte on that isn't blank
abbrev from : List ℕ → ℕ → List ℕ
from line i = take (length line - i) (drop i line)

line_text : (line : List ℕ) (i : ℕ) → Some i ≡ position (λ b. not (is_blank b)) line → IsText line (from line i)
line_text line i e =
    let at = found (position_or_len (λ b. not (is_blank b)) line) (length line) i e in
    rw (take_rest line i, at.1) (text_of line at.0)

-- nothing stands behind the end
end_of : (line : List ℕ) → from line (length line) ≡ []
end_of line = take_rest line (length line) ∙ drop_all (length line) line (omega arith)

no_words : (line : List ℕ) → None ≡ position (λ b. not (is_blank b)) line → blank_words [] ≡ blank_words line
unfolding blank_words
no_words line e = sym (all_blank line (not_found (position_or_len (λ b. not (is_blank b)) line) (length line) e))

begun : (text : List ℕ) → begins text ≡ true → begins_in_word text ≡ true
begun [] first = refl
begun (b ∷ bs) first = first

pub from_first : (line : List ℕ) (start : Option ℕ) → start ≡ position (λ b. not (is_blank b)) line
    → (blank_words (from line (unwrap_or start (length line))) ≡ blank_words line) × (begins_in_word (from line (unwrap_or start (length line))) ≡ true)
from_first line (Some i) e =
    let text = line_text line i e in
    (text.same, begun (from line i) text.first)
from_first line None e = rw (end_of line) (no_words line e, refl)

-- the first of some words and those behind it
abbrev word_in : Option (List ℕ × List (List ℕ)) → List ℕ
word_in None = []
word_in (Some found) = found.0

abbrev rest_in : Option (List ℕ × List (List ℕ)) → List (List ℕ)
rest_in None = []
rest_in (Some found) = found.1

parted : (words : List (List ℕ)) (word : List ℕ) (rest : List (List ℕ)) → first_word_of words ≡ Some (word, rest) → (word ≡ word_or_empty words) × (rest ≡ words_behind words)
parted [] word rest e = absurd (cc (e))
parted (w ∷ ws) word rest e = (sym (ap word_in e), sym (ap rest_in e))

pub whole_text : (text : List ℕ) → begins_in_word text ≡ true → None ≡ position is_blank text → (text ≡ word_or_empty (blank_words text)) × (blank_words [] ≡ words_behind (blank_words text))
unfolding blank_words
whole_text [] first e = (refl, refl)
whole_text (b ∷ bs) first e = parted (blank_words (b ∷ bs)) (b ∷ bs) (blank_words []) (first_whole (b ∷ bs) first e)

pub cut_text : (text : List ℕ) (i : ℕ) → begins_in_word text ≡ true → Some i ≡ position is_blank text → (take i text ≡ word_or_empty (blank_words text)) × (blank_words (behind text i) ≡ words_behind (blank_words text))
cut_text [] i first e = absurd (let at = found (position_or_len is_blank []) 0 i e in omega (arith, at.0))
cut_text (b ∷ bs) i first e = parted (blank_words (b ∷ bs)) (take i (b ∷ bs)) (blank_words (behind (b ∷ bs) i)) (first_cut (b ∷ bs) i first e)

-- the first blank, as a search for three bytes finds it
fails : (b : Bool) → (b ≡ true → ⊥) → b ≡ false
fails true h = absurd (h refl)
fails false h = refl

place : (n i : ℕ) → i < n → Some i ≡ cond (nat_lt i n) (Some i) None
place n i h = grind (arith, nat_tests)

no_place : (n : ℕ) → None ≡ cond (nat_lt n n) (Some n) None
no_place n = grind (arith, nat_tests)

pub found_blank : (text : List ℕ) (r : Option ℕ) → IsFirstByte (is_byte3 32 9 13) text r → r ≡ position is_blank text
found_blank text None nowhere =
    let past : position_or_len is_blank text ≡ length text =
    position_or_len_is is_blank text (length text) 0 (omega arith) (λ k low. fails (is_blank (get_or text k 0)) (nowhere k (omega arith) low)) (λ inside. absurd (omega (arith, inside))) in
    rw past (no_place (length text))
found_blank text (Some i) at =
    let here : position_or_len is_blank text ≡ i =
    position_or_len_is is_blank text i 0 (omega (arith, at.0.high)) (λ k low. fails (is_blank (get_or text k 0)) (at.0.before k (omega arith) low)) (λ inside. at.1) in
    rw here (place (length text) i at.0.high)
