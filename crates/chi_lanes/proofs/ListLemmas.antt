-- Words with commas between them.
use Rattle.std.proofs.Common.{◌≡◌, ℕ, zero, suc, ◌+◌, ◌*◌, ◌<◌, ◌≤◌, ◌==◌, List, [], ◌∷◌, ◌++◌, Bool, true, false, length, get_or, set, length-set, append_assoc, take, drop, Option, Some, None, refl, sym, ap, subst, ◌∙◌, arith, ⊎_elim}
use Rattle.std.specs.List.{position_or_len}
use Rattle.std.proofs.lemmas.Bool.{cases_lt}
use Rattle.std.proofs.lemmas.Bool.Decides.{nat_tests}
use Rattle.std.proofs.lemmas.List.{length-drop, length-take-le, take-append-drop, take_all, take_more_set}
use Rattle.std.proofs.lemmas.List.Splits.{slice_split_at, slice_split_first, slice_split_none}
use Rattle.std.proofs.lemmas.List.Sums.{fails_before_first, passes_at_first}
use Rattle.std.proofs.Math.Seq.{drop-cons}
use Rattle.chi_lanes.specs.Lists.{AllWrite, Begins, Lists, Writes, parts_of}
use Rattle.chi_lanes.specs.Numbers.{◌>>=◌, digit_of, digits_after, number_of}

abbrev is_comma : ℕ → Bool
is_comma b = b == 44

-- a comma is no digit
no_digit : (d m : ℕ) (next : ℕ → Option ℕ) (b : Bool) → is_comma d ≡ b → (digit_of d >>= next) ≡ Some m → b ≡ false
no_digit d m next true e is =
    let same : d ≡ 44 = grind (arith, nat_tests) in
    let none : digit_of d ≡ None = ap digit_of same in
    let lost : (digit_of d >>= next) ≡ None = ap (λ o. o >>= next) none in
    absurd (cc (is, lost))
no_digit d m next false e is = refl

rest_digits : (o : Option ℕ) (m : ℕ) (next : ℕ → Option ℕ) → (o >>= next) ≡ Some m → (v : ℕ) × (next v ≡ Some m)
rest_digits None m next is = absurd (cc is)
rest_digits (Some v) m next is = (v, is)

bare : (n m : ℕ) (ds : List ℕ) → digits_after n ds ≡ Some m → (k d : ℕ) → k < length ds → is_comma (get_or ds k d) ≡ false
unfolding digits_after
bare n m [] is k d low = absurd (omega (arith, low))
bare n m (x ∷ ds) is zero d low = no_digit x m (λ v. digits_after (n * 16 + v) ds) (is_comma x) refl is
bare n m (x ∷ ds) is (suc k) d low =
    let rest = rest_digits (digit_of x) m (λ v. digits_after (n * 16 + v) ds) is in
    bare (n * 16 + rest.0) m ds rest.1 k d (omega arith)

bare_word : (text : List ℕ) (word : ℕ) → number_of text ≡ Some word → (k d : ℕ) → k < length text → is_comma (get_or text k d) ≡ false
bare_word [] word is k d low = absurd (omega (arith, low))
bare_word (x ∷ ds) word is k d low = bare 0 word (x ∷ ds) is k d low

-- one word more in front
pub one_more : (text : List ℕ) (word : ℕ) (rest words : List ℕ) → 17 ≤ length text → Begins text word rest → Lists rest words → Lists text (word ∷ words)
one_more text word rest words long begins lists =
    let comma : is_comma (get_or text 16 0) ≡ true = ap is_comma begins.comma in
    let cut : text ≡ take 16 text ++ (get_or text 16 0 ∷ drop 17 text) = sym (take-append-drop 16 text) ∙ ap (λ tail. take 16 text ++ tail) (drop-cons text 16 0 (omega arith)) in
    let parts : parts_of text ≡ take 16 text ∷ parts_of (drop 17 text) = ap parts_of cut ∙ slice_split_at is_comma (take 16 text) (get_or text 16 0) (drop 17 text) (bare_word (take 16 text) word begins.writes.1) comma in
    subst (λ (texts : List (List ℕ)). AllWrite texts (word ∷ words)) (sym parts) (begins.writes, subst (λ (tail : List ℕ). Lists tail words) begins.behind lists)

pub only_one : (text : List ℕ) (word : ℕ) → length text ≡ 16 → number_of text ≡ Some word → Lists text (word ∷ [])
only_one text word long is = subst (λ (texts : List (List ℕ)). AllWrite texts (word ∷ [])) (sym (slice_split_none is_comma text (bare_word text word is))) ((long, is), tt)

-- where a list of words has a comma, and where it has none
abbrev first : List ℕ → ℕ
first text = position_or_len is_comma text

no_comma : (text : List ℕ) → length text ≤ first text → parts_of text ≡ text ∷ []
no_comma text none = slice_split_none is_comma text (λ k d low. fails_before_first is_comma text k d (omega arith))

with_comma : (text : List ℕ) → first text < length text → parts_of text ≡ take (first text) text ∷ parts_of (drop (first text + 1) text)
with_comma text low = slice_split_first is_comma text 0 low

comma_is : (b : ℕ) → is_comma b ≡ true → b ≡ 44
comma_is b e = grind (arith, nat_tests)

no_parts : (text : List ℕ) → parts_of text ≡ [] → ⊥
no_parts text e =
    ⊎_elim (λ low. (let f = with_comma text low in cc (e, f))) (λ high. (let f = no_comma text high in cc (e, f))) (cases_lt (first text) (length text))

-- a list of two words or more
pub of_two : (text : List ℕ) (word next : ℕ) (words : List ℕ) → Lists text (word ∷ next ∷ words) → (17 ≤ length text) × Begins text word (drop 17 text) × Lists (drop 17 text) (next ∷ words)
of_two text word next words lists =
    ⊎_elim (λ low.
    let is = subst (λ (texts : List (List ℕ)). AllWrite texts (word ∷ next ∷ words)) (with_comma text low) lists in
    let place : first text ≡ 16 = sym (length-take-le (first text) text (omega arith)) ∙ is.0.0 in
    let behind : first text + 1 ≡ 17 = omega arith in (
      omega arith,
      record {
        writes = subst (λ n. Writes (take n text) word) place is.0;
        comma = comma_is (get_or text 16 0) (subst (λ n. is_comma (get_or text n 0) ≡ true) place (passes_at_first is_comma text 0 low));
        behind = refl;
      },
      subst (λ n. Lists (drop n text) (next ∷ words)) behind is.1,
    )) (λ high.
    let is = subst (λ (texts : List (List ℕ)). AllWrite texts (word ∷ next ∷ words)) (no_comma text high) lists in
    absurd is.1) (cases_lt (first text) (length text))

-- a list of one word
pub of_one : (text : List ℕ) (word : ℕ) → Lists text (word ∷ []) → Writes text word
of_one text word lists =
    ⊎_elim (λ low.
    let is = subst (λ (texts : List (List ℕ)). AllWrite texts (word ∷ [])) (with_comma text low) lists in
    absurd (nothing (parts_of (drop (first text + 1) text)) refl is.1)) (λ high.
    let is = subst (λ (texts : List (List ℕ)). AllWrite texts (word ∷ [])) (no_comma text high) lists in
    is.0) (cases_lt (first text) (length text))
  where
    nothing : (texts : List (List ℕ)) → parts_of (drop (first text + 1) text) ≡ texts → AllWrite texts [] → ⊥
    nothing [] e none = no_parts (drop (first text + 1) text) e
    nothing (part ∷ texts) e none = none

-- how long a list is
pub long_is : (text words : List ℕ) (n : ℕ) → length words ≡ n + 1 → Lists text words → length text ≡ 17 * n + 16
long_is text [] n size lists = absurd (omega (arith, size))
long_is text (word ∷ []) n size lists =
    let one = (of_one text word lists).0 in
    let none : n ≡ 0 = omega (arith, size) in
    omega (arith, one, none)
long_is text (word ∷ next ∷ words) zero size lists = absurd (omega (arith, size))
long_is text (word ∷ next ∷ words) (suc n) size lists =
    let two = of_two text word next words lists in
    let rest = long_is (drop 17 text) (next ∷ words) n (omega (arith, size)) two.2 in
    let long = length-drop 17 text in
    omega (arith, rest, long, two.0)

-- a list of so many words, by its first
pub behind_first : (left words : List ℕ) (n : ℕ) → length words ≡ n + 2 → Lists left words → (word : ℕ) × (next : List ℕ) × (length next ≡ n + 1) × Begins left word (drop 17 left) × Lists (drop 17 left) next
behind_first left [] n size lists = absurd (omega (arith, size))
behind_first left (word ∷ []) n size lists = absurd (omega (arith, size))
behind_first left (word ∷ next ∷ words) n size lists =
    let two = of_two left word next words lists in
    (word, next ∷ words, omega (arith, size), two.1, two.2)

pub last_word : (left words : List ℕ) → length words ≡ 1 → Lists left words → (word : ℕ) × Writes left word
last_word left [] size lists = absurd (omega (arith, size))
last_word left (word ∷ []) size lists = (word, of_one left word lists)
last_word left (word ∷ next ∷ words) size lists = absurd (omega (arith, size))

-- one more of some words
pub put_in : (words rest : List ℕ) (at word : ℕ) → at < length words → take at words ++ (word ∷ rest) ≡ take (at + 1) (set words at word) ++ rest
put_in words rest at word low = sym (ap (λ front. front ++ rest) (take_more_set words at word low) ∙ append_assoc (take at words) (word ∷ []) rest)

pub put_last : (words : List ℕ) (word : ℕ) → length words ≡ 8 → take 7 words ++ (word ∷ []) ≡ set words 7 word
put_last words word eight =
    let long : length (set words 7 word) ≤ 7 + 1 = omega (arith, length-set words 7 word, eight) in
    sym (take_more_set words 7 word (omega (arith, eight))) ∙ take_all (7 + 1) (set words 7 word) long
