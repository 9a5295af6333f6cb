-- Words without spaces, joined by one space, are cut into the same words again.
use Rattle.std.proofs.Common.{◌≡◌, ℕ, ◌^◌, ◌<◌, ◌==◌, ◌&&◌, Bool, true, false, not, List, [], ◌∷◌, ◌++◌, Some, refl, ap, ◌∙◌, arith}
use Rattle.std.specs.List.{onto_first, join_with_byte}
use Rattle.std.specs.Str.{all_ascii_digits}
use Rattle.std.specs.Char.{is_ascii_digit}
use Rattle.std.specs.Fmt.{decimal}
use Rattle.std.proofs.lemmas.Bool.Decides.{nat_tests}
use Rattle.std.proofs.lemmas.Fmt.{digits_decimal}
use Rattle.std.proofs.lemmas.List.Splits.{slice_split-cons_yes, slice_split-cons_no}
use Rattle.chi_script.specs.Words.{words_of, has_no_space, small_of}
use Rattle.chi_script.proofs.NumberLemmas.{own, both, small_read}

abbrev pub no_spaces : List (List ℕ) → Bool
no_spaces [] = true
no_spaces (word ∷ words) = has_no_space word && no_spaces words

other : (b : ℕ) → not (b == 32) ≡ true → (b == 32) ≡ false
other b e = grind (arith, nat_tests)

pub last_word : (word : List ℕ) → has_no_space word ≡ true → words_of word ≡ word ∷ []
last_word [] e = refl
last_word (b ∷ bs) e = let each = both (not (b == 32)) (has_no_space bs) e in slice_split-cons_no (λ x. x == 32) b bs (other b each.0) ∙ ap (onto_first b) (last_word bs each.1)

pub next_word : (word rest : List ℕ) → has_no_space word ≡ true → words_of (word ++ 32 ∷ rest) ≡ word ∷ words_of rest
next_word [] rest e = slice_split-cons_yes (λ x. x == 32) 32 rest refl
next_word (b ∷ bs) rest e = let each = both (not (b == 32)) (has_no_space bs) e in slice_split-cons_no (λ x. x == 32) b (bs ++ 32 ∷ rest) (other b each.0) ∙ ap (onto_first b) (next_word bs rest each.1)

pub joined_again : (word : List ℕ) (words : List (List ℕ)) → no_spaces (word ∷ words) ≡ true → words_of (join_with_byte 32 (word ∷ words)) ≡ word ∷ words
joined_again word [] e = last_word word (both (has_no_space word) true e).0
joined_again word (next ∷ words) e = let each = both (has_no_space word) (no_spaces (next ∷ words)) e in next_word word (join_with_byte 32 (next ∷ words)) each.0 ∙ ap (λ ws. word ∷ ws) (joined_again next words each.1)

digit_no_space : (b : ℕ) → is_ascii_digit b ≡ true → not (b == 32) ≡ true
digit_no_space b e = grind (arith, nat_tests)

pub digits_no_space : (ds : List ℕ) → all_ascii_digits ds ≡ true → has_no_space ds ≡ true
digits_no_space [] e = refl
digits_no_space (d ∷ ds) e = let each = both (is_ascii_digit d) (all_ascii_digits ds) e in rw (digit_no_space d each.0, digits_no_space ds each.1) refl

pub decimal_no_space : (n : ℕ) → n < 2 ^ 64 → has_no_space (decimal n) ≡ true
decimal_no_space n small = digits_no_space (decimal n) (digits_decimal own n small)

-- a word that is read as a number is all of its line
pub one_number : (word : List ℕ) (n : ℕ) → small_of word ≡ Some n → words_of word ≡ word ∷ []
one_number word n e = let read = small_read word n e in last_word word (rw read.1.1 (decimal_no_space read.0 read.1.0))
