-- The data of a line is read as it is written, and only so.
use Rattle.std.proofs.Common.{◌≡◌, ◌⊎◌, inl, inr, ℕ, zero, suc, ◌+◌, ◌==◌, ◌&&◌, Bool, true, false, cond, List, [], ◌∷◌, ◌++◌, length, Option, Some, None, refl, sym, ap, subst, ◌∙◌, arith, codes, append_assoc}
use Rattle.std.specs.Prelude.{is_none}
use Rattle.std.specs.List.{position}
use Rattle.std.proofs.lemmas.Bool.Decides.{nat_tests}
use Rattle.std.proofs.lemmas.List.{append-nil}
use Rattle.chi_script.specs.Words.{◌>>=◌, is_text}
use Rattle.chi_script.proofs.LineLemmas.{uncut}
use Rattle.chi_script.proofs.NumberLemmas.{bound}
use Rattle.chi_trace.specs.declared.fields.Beat.{Beat}
use Rattle.chi_trace.specs.declared.fields.Resp.{Resp}
use Rattle.chi_trace.specs.declared.fields.Resp.TheVariants.{I}
use Rattle.chi_trace.specs.Fields.{beat_of, beat_with, first_part, is_dash, line_words_of, listed_of, only_of, comma_parts, vector_of, word_in, written_of, zeros}
use Rattle.chi_trace.specs.Numbers.{hex_of, plain_of, unmarked}
use Rattle.chi_trace.specs.Spelling.{AreListed, AreNumbers, AreWords, IsBeat, IsHex, IsVector, IsWord, IsWritten, sixteens}
use Rattle.chi_trace.proofs.FieldLemmas.{text_is}
use Rattle.chi_trace.proofs.HexLemmas.{hex_again, hex_read, plain_again, plain_read}

-- one word of a list
x_case : (part : List ℕ) (w : Option ℕ) (b : Bool) → is_text part (codes "x") ≡ b → cond b (Some None) (hex_of 0xffff_ffff_ffff_ffff part >>= λ n. Some (Some n)) ≡ Some w → IsWord w part
x_case part w true at e = let same : None ≡ w = cc in subst (λ (o : Option ℕ). IsWord o part) same (text_is part (codes "x") at)
x_case part w false at e =
    let one = bound (hex_of 0xffff_ffff_ffff_ffff part) (λ n. Some (Some n)) w e in
    let same : Some one.0 ≡ w = let last = one.2 in cc in
    subst (λ (o : Option ℕ). IsWord o part) same (hex_read 0xffff_ffff_ffff_ffff one.0 part one.1)

word_read : (part : List ℕ) (w : Option ℕ) → word_in part ≡ Some w → IsWord w part
word_read part w e = x_case part w (is_text part (codes "x")) refl e

-- an x is no number
no_x : (most n : ℕ) → IsHex most n (codes "x") → ⊥
no_x most n is = let digit = is.0.1 in cc

hex_no_x : (most n : ℕ) (part : List ℕ) (b : Bool) → is_text part (codes "x") ≡ b → IsHex most n part → b ≡ false
hex_no_x most n part false at is = refl
hex_no_x most n part true at is = absurd (no_x most n (subst (λ (w : List ℕ). IsHex most n w) (text_is part (codes "x") at) is))

word_again : (w : Option ℕ) (part : List ℕ) → IsWord w part → word_in part ≡ Some w
word_again None part is = ap word_in is
word_again (Some n) part is =
    let plain : is_text part (codes "x") ≡ false = hex_no_x 0xffff_ffff_ffff_ffff n part (is_text part (codes "x")) refl is in
    rw (plain, hex_again 0xffff_ffff_ffff_ffff n part is) refl

-- so many words more behind these
abbrev chain : ℕ → List (Option ℕ) → List (List ℕ) → Option (List (Option ℕ))
chain zero front parts = only_of parts >>= λ w. Some (front ++ w ∷ [])
chain (suc k) front parts = first_part parts >>= λ found. chain k (front ++ found.0 ∷ []) found.1

listed_is : (parts : List (List ℕ)) → listed_of parts ≡ chain 7 [] parts
unfolding listed_of
listed_is parts = refl

-- what the first part gives
record IsFirst (parts : List (List ℕ)) (w : Option ℕ) (rest : List (List ℕ)) : Type 0 where
  part : List ℕ
  is : parts ≡ part ∷ rest
  word : IsWord w part

first_read : (parts : List (List ℕ)) (found : Option ℕ × List (List ℕ)) → first_part parts ≡ Some found → IsFirst parts found.0 found.1
first_read [] found e = cc
first_read (part ∷ []) found e = cc
first_read (part ∷ next ∷ rest) found e =
    let one = bound (word_in part) (λ w. Some (w, next ∷ rest)) found e in
    let same : ◌≡◌ {A = Option ℕ × List (List ℕ)} (one.0, next ∷ rest) found = let last = one.2 in cc in
    subst (λ (f : Option ℕ × List (List ℕ)). IsFirst (part ∷ next ∷ rest) f.0 f.1) same (record { part = part; is = refl; word = word_read part one.0 one.1 })

only_read : (parts : List (List ℕ)) (w : Option ℕ) → only_of parts ≡ Some w → IsFirst parts w []
only_read [] w e = cc
only_read (part ∷ []) w e = record { part = part; is = refl; word = word_read part w e }
only_read (part ∷ next ∷ rest) w e = cc

-- the words that were read behind those in front
record AreBehind (k : ℕ) (front : List (Option ℕ)) (parts : List (List ℕ)) (words : List (Option ℕ)) : Type 0 where
  later : List (Option ℕ)
  all : words ≡ front ++ later
  spelled : AreWords later parts
  count : length later ≡ k + 1

chain_read : (k : ℕ) (front : List (Option ℕ)) (parts : List (List ℕ)) (words : List (Option ℕ)) → chain k front parts ≡ Some words → AreBehind k front parts words
chain_read zero front parts words e =
    let one = bound (only_of parts) (λ w. Some (front ++ w ∷ [])) words e in
    let same : front ++ one.0 ∷ [] ≡ words = let last = one.2 in cc in
    let read = only_read parts one.0 one.1 in
    record { later = one.0 ∷ []; all = sym same; spelled = subst (λ (ps : List (List ℕ)). AreWords (one.0 ∷ []) ps) (sym read.is) (read.word, tt); count = refl }
chain_read (suc k) front parts words e =
    let one = bound (first_part parts) (λ found. chain k (front ++ found.0 ∷ []) found.1) words e in
    let read = first_read parts one.0 one.1 in
    let rest = chain_read k (front ++ one.0.0 ∷ []) one.0.1 words one.2 in
    record {
      later = one.0.0 ∷ rest.later;
      all = rest.all ∙ append_assoc front (one.0.0 ∷ []) rest.later;
      spelled = subst (λ (ps : List (List ℕ)). AreWords (one.0.0 ∷ rest.later) ps) (sym read.is) (read.word, rest.spelled);
      count = omega (arith, rest.count);
    }

chain_again : (k : ℕ) (front later : List (Option ℕ)) (parts : List (List ℕ)) → AreWords later parts → length later ≡ k + 1 → chain k front parts ≡ Some (front ++ later)
chain_again zero front [] parts is count = absurd (omega (arith, count))
chain_again zero front (w ∷ []) [] is count = absurd is
chain_again zero front (w ∷ []) (part ∷ []) is count = rw (word_again w part is.0) refl
chain_again zero front (w ∷ []) (part ∷ next ∷ rest) is count = absurd is.1
chain_again zero front (w ∷ v ∷ later) parts is count = absurd (omega (arith, count))
chain_again (suc k) front [] parts is count = absurd (omega (arith, count))
chain_again (suc k) front (w ∷ []) parts is count = absurd (omega (arith, count))
chain_again (suc k) front (w ∷ v ∷ later) [] is count = absurd is
chain_again (suc k) front (w ∷ v ∷ later) (part ∷ []) is count = absurd is.1
chain_again (suc k) front (w ∷ v ∷ later) (part ∷ next ∷ rest) is count =
    rw (word_again w part is.0) (chain_again k (front ++ w ∷ []) (v ∷ later) (next ∷ rest) is.1 (omega (arith, count)) ∙ ap Some (append_assoc front (w ∷ []) (v ∷ later)))

-- one number
numbers_from : List (Option ℕ) → List (List ℕ) → Option (List (Option ℕ))
numbers_from front [] = Some front
numbers_from front (text ∷ texts) = plain_of 0xffff_ffff_ffff_ffff text >>= λ w. numbers_from (front ++ Some w ∷ []) texts

vector_is : (digits : List ℕ) → vector_of digits ≡ numbers_from [] (sixteens digits)
unfolding vector_of numbers_from
vector_is digits = refl

record AreAfter (front : List (Option ℕ)) (texts : List (List ℕ)) (words : List (Option ℕ)) : Type 0 where
  later : List (Option ℕ)
  all : words ≡ front ++ later
  spelled : AreNumbers later texts

numbers_read : (front : List (Option ℕ)) (texts : List (List ℕ)) (words : List (Option ℕ)) → numbers_from front texts ≡ Some words → AreAfter front texts words
unfolding numbers_from
numbers_read front [] words e = let same : front ≡ words = cc in record { later = []; all = sym same ∙ sym (append-nil front); spelled = tt }
numbers_read front (text ∷ texts) words e =
    let one = bound (plain_of 0xffff_ffff_ffff_ffff text) (λ w. numbers_from (front ++ Some w ∷ []) texts) words e in
    let rest = numbers_read (front ++ Some one.0 ∷ []) texts words one.2 in
    record { later = Some one.0 ∷ rest.later; all = rest.all ∙ append_assoc front (Some one.0 ∷ []) rest.later; spelled = (plain_read 0xffff_ffff_ffff_ffff one.0 text one.1, rest.spelled) }

numbers_again : (front later : List (Option ℕ)) (texts : List (List ℕ)) → AreNumbers later texts → numbers_from front texts ≡ Some (front ++ later)
unfolding numbers_from
numbers_again front [] [] is = ap Some (sym (append-nil front))
numbers_again front [] (text ∷ texts) is = absurd is
numbers_again front (None ∷ later) texts is = absurd is
numbers_again front (Some n ∷ later) [] is = absurd is
numbers_again front (Some n ∷ later) (text ∷ texts) is =
    rw (plain_again 0xffff_ffff_ffff_ffff n text is.0) (numbers_again (front ++ Some n ∷ []) later texts is.1 ∙ ap Some (append_assoc front (Some n ∷ []) later))

-- a list, or one number
none_there : (o : Option ℕ) → is_none o ≡ true → None ≡ o
none_there None e = refl
none_there (Some i) e = cc

is_128 : (n : ℕ) → (n == 128) ≡ true → n ≡ 128
is_128 n e = grind (arith, nat_tests)

both : (a b : Bool) → (a && b) ≡ true → (a ≡ true) × (b ≡ true)
both true b e = (refl, e)
both false b e = cc

line_case : (word : List ℕ) (words : List (Option ℕ)) (b : Bool) → (length (unmarked word) == 128 && is_none (position (λ x. x == 44) word)) ≡ b
    → cond b (vector_of (unmarked word)) (listed_of (comma_parts word)) ≡ Some words → AreListed words word ⊎ IsVector words word
line_case word words true at e =
    let test = both (length (unmarked word) == 128) (is_none (position (λ x. x == 44) word)) at in
    let read = numbers_read [] (sixteens (unmarked word)) words (sym (vector_is (unmarked word)) ∙ e) in
    inr (record { size = is_128 (length (unmarked word)) test.0; no_comma = none_there (position (λ x. x == 44) word) test.1; numbers = subst (λ (ws : List (Option ℕ)). AreNumbers ws (sixteens (unmarked word))) (sym read.all) read.spelled })
line_case word words false at e =
    let read = chain_read 7 [] (comma_parts word) words (sym (listed_is (comma_parts word)) ∙ e) in
    inl (subst (λ (ws : List (Option ℕ)). AreListed ws word) (sym read.all) (read.spelled, read.count))

line_read : (word : List ℕ) (words : List (Option ℕ)) → line_words_of word ≡ Some words → AreListed words word ⊎ IsVector words word
line_read word words e = line_case word words (length (unmarked word) == 128 && is_none (position (λ x. x == 44) word)) refl e

-- eight words aren't one part
not_one : (words : List (Option ℕ)) (part : List ℕ) → AreWords words (part ∷ []) → length words ≡ 8 → ⊥
not_one [] part is count = is
not_one (w ∷ []) part is count = omega (arith, count)
not_one (w ∷ v ∷ ws) part is count = is.1

no_vector : (words : List (Option ℕ)) (word : List ℕ) (a b : Bool) → AreListed words word → (is_none (position (λ x. x == 44) word) ≡ b) → (a && b) ≡ false
no_vector words word false b is at = refl
no_vector words word true false is at = refl
no_vector words word true true is at =
    absurd (not_one words word (subst (λ (ps : List (List ℕ)). AreWords words ps) (uncut (λ (x : ℕ). x == 44) word (none_there (position (λ x. x == 44) word) at)) is.0) is.1)

line_again : (words : List (Option ℕ)) (word : List ℕ) → AreListed words word ⊎ IsVector words word → line_words_of word ≡ Some words
line_again words word (inl is) =
    let list : (length (unmarked word) == 128 && is_none (position (λ x. x == 44) word)) ≡ false = no_vector words word (length (unmarked word) == 128) (is_none (position (λ x. x == 44) word)) is refl in
    rw list (listed_is (comma_parts word) ∙ chain_again 7 [] words (comma_parts word) is.0 is.1)
line_again words word (inr is) =
    let size = is.size in
    let none = is.no_comma in
    rw (← none, size) (vector_is (unmarked word) ∙ numbers_again [] words (sixteens (unmarked word)) is.numbers)

-- a dash is neither
dash_no_words : (words : List (Option ℕ)) → AreListed words (codes "-") ⊎ IsVector words (codes "-") → ⊥
dash_no_words words (inl is) = not_one words (codes "-") is.0 is.1
dash_no_words words (inr is) = omega (arith, is.size)

words_no_dash : (words : List (Option ℕ)) (word : List ℕ) (b : Bool) → is_dash word ≡ b → AreListed words word ⊎ IsVector words word → b ≡ false
words_no_dash words word false at is = refl
words_no_dash words word true at is = absurd (dash_no_words words (subst (λ (w : List ℕ). AreListed words w ⊎ IsVector words w) (text_is word (codes "-") at) is))

pub beat_read : (word : List ℕ) (beat : Beat) → beat_of word ≡ Some beat → IsBeat beat word
beat_read word beat e =
    let one = bound (line_words_of word) (λ ws. Some (beat_with ws)) beat e in
    let same : beat_with one.0 ≡ beat = let last = one.2 in cc in
    record { words = one.0; is = sym same; text = line_read word one.0 one.1 }

pub beat_again : (beat : Beat) (word : List ℕ) → IsBeat beat word → beat_of word ≡ Some beat
beat_again beat word is = rw (line_again is.words word is.text) (ap Some (sym is.is))

-- words, where a dash may stand for them
dash_case : (word : List ℕ) (beat : Beat) (b : Bool) → is_dash word ≡ b → cond b (Some zeros) (beat_of word) ≡ Some beat → IsWritten I beat word
dash_case word beat true at e = let same : zeros ≡ beat = cc in inl (text_is word (codes "-") at, sym same)
dash_case word beat false at e = inr (beat_read word beat e)

dash_again : (beat : Beat) (word : List ℕ) → IsWritten I beat word → written_of I word ≡ Some beat
dash_again beat word (inl is) = ap (written_of I) is.0 ∙ ap Some (sym is.1)
dash_again beat word (inr is) = let plain : is_dash word ≡ false = words_no_dash is.words word (is_dash word) refl is.text in rw plain (beat_again beat word is)

pub written_read : (resp : Resp) (word : List ℕ) (beat : Beat) → written_of resp word ≡ Some beat → IsWritten resp beat word
written_read I word beat e = dash_case word beat (is_dash word) refl e
written_read other word beat e = beat_read word beat e

pub written_again : (resp : Resp) (beat : Beat) (word : List ℕ) → IsWritten resp beat word → written_of resp word ≡ Some beat
written_again I beat word is = dash_again beat word is
written_again other beat word is = beat_again beat word is
