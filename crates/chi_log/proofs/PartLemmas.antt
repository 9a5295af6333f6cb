-- The words of a list with commas between them.
use Rattle.std.proofs.Common.{◌≡◌, ℕ, zero, suc, ◌+◌, ◌-◌, ◌*◌, ◌<◌, ◌≤◌, ◌==◌, nat_lt, cond, Bool, true, false, List, [], ◌∷◌, ◌++◌, codes, length, get_or, take, drop, Option, Some, None, refl, ap, sym, ◌∙◌, arith}
use Rattle.std.specs.Prelude.{bytes_eq}
use Rattle.std.specs.List.{position, position_or_len}
use Rattle.std.specs.Option.{option_map}
use Rattle.std.proofs.lemmas.Bool.Decides.{nat_tests}
use Rattle.std.proofs.lemmas.List.{take-append-drop, take_rest}
use Rattle.std.proofs.lemmas.List.Splits.{slice_split_at, slice_split_first, slice_split_none, length-slice_split}
use Rattle.std.proofs.lemmas.List.Sums.{fails_before_first}
use Rattle.std.proofs.lemmas.Slice.Eq.{bytes_eq-Decides}
use Rattle.std.proofs.Math.Seq.{drop-cons}
use Rattle.chi_lanes.specs.Numbers.{digit_of, digits_after, number_of}
use Rattle.chi_log.specs.Beats.{comma_parts, first_part, only_of, part_of}
use Rattle.chi_log.specs.Kinds.{◌>>=◌}
use Rattle.chi_log.specs.Numbers.{and_then, at_most}
use Rattle.chi_log.proofs.HexLemmas.{is_hex}

with_parts : (all : List (List ℕ)) → 0 < length all → (first : List ℕ) × (others : List (List ℕ)) × (all ≡ first ∷ others)
with_parts [] some = absurd (omega (arith, some))
with_parts (first ∷ others) some = (first, others, refl)

some_parts : (xs : List ℕ) → (first : List ℕ) × (others : List (List ℕ)) × (comma_parts xs ≡ first ∷ others)
some_parts xs = with_parts (comma_parts xs) (omega (arith, length-slice_split (λ (b : ℕ). b == 44) xs))

-- what a search found, or not
found : (n m i : ℕ) → Some i ≡ cond (nat_lt n m) (Some n) None → (n < m) × (i ≡ n)
found n m i e = grind (arith, nat_tests)

not_found : (n m : ℕ) → None ≡ cond (nat_lt n m) (Some n) None → m ≤ n
not_found n m e = grind (arith, nat_tests)

-- what stands behind the comma at a place
abbrev pub behind : List ℕ → ℕ → List ℕ
behind list i = take (length list - (i + 1)) (drop (i + 1) list)

cut_at : (xs : List ℕ) (i : ℕ) → Some i ≡ position (λ b. b == 44) xs → comma_parts xs ≡ take i xs ∷ comma_parts (behind xs i)
cut_at xs i e =
    let at = found (position_or_len (λ (b : ℕ). b == 44) xs) (length xs) i e in
    rw (take_rest xs (i + 1), at.1) (slice_split_first (λ (b : ℕ). b == 44) xs 0 at.0)

uncut : (xs : List ℕ) → None ≡ position (λ b. b == 44) xs → comma_parts xs ≡ xs ∷ []
uncut xs e =
    let past = not_found (position_or_len (λ (b : ℕ). b == 44) xs) (length xs) e in
    slice_split_none (λ (b : ℕ). b == 44) xs (λ k d inside. fails_before_first (λ (b : ℕ). b == 44) xs k d (omega (arith, past, inside)))

-- the first word, and the parts behind it
parted : (list : List ℕ) (i : ℕ) → comma_parts list ≡ take i list ∷ comma_parts (behind list i)
    → first_part (comma_parts list) ≡ (part_of (take i list) >>= λ w. Some (w, comma_parts (behind list i)))
parted list i cut = let rest = some_parts (behind list i) in rw (cut, rest.2) refl

more : (list : List ℕ) (i : ℕ) → Some i ≡ position (λ b. b == 44) list
    → first_part (comma_parts list) ≡ (part_of (take i list) >>= λ w. Some (w, comma_parts (behind list i)))
more list i e = parted list i (cut_at list i e)

pub bad_first : (list : List ℕ) (i : ℕ) → Some i ≡ position (λ b. b == 44) list → None ≡ part_of (take i list) → None ≡ first_part (comma_parts list)
bad_first list i e bad = sym (more list i e ∙ ap (λ (o : Option (Option ℕ)). o >>= λ w. Some (w, comma_parts (behind list i))) (sym bad))

pub good_first : (list : List ℕ) (i : ℕ) (w : Option ℕ) → Some i ≡ position (λ b. b == 44) list → Some w ≡ part_of (take i list)
    → Some (w, comma_parts (behind list i)) ≡ first_part (comma_parts list)
good_first list i w e good = sym (more list i e ∙ ap (λ (o : Option (Option ℕ)). o >>= λ v. Some (v, comma_parts (behind list i))) (sym good))

pub no_first : (list : List ℕ) → None ≡ position (λ b. b == 44) list → None ≡ first_part (comma_parts list)
no_first list e = sym (rw (uncut list e) refl)

-- one part alone
pub not_only : (list : List ℕ) (i : ℕ) → Some i ≡ position (λ b. b == 44) list → None ≡ only_of (comma_parts list)
not_only list i e = let rest = some_parts (behind list i) in sym (rw (cut_at list i e, rest.2) refl)

pub only : (list : List ℕ) → None ≡ position (λ b. b == 44) list → part_of list ≡ only_of (comma_parts list)
only list e = sym (rw (uncut list e) refl)

-- digits are no commas, and no x
not_comma : (b v : ℕ) → digit_of b ≡ Some v → (b == 44) ≡ false
not_comma b v e = grind (arith, nat_tests, e)

no_comma : (m n : ℕ) (s : List ℕ) → Some n ≡ digits_after m s → (k d : ℕ) → k < length s → (get_or s k d == 44) ≡ false
unfolding digits_after
no_comma m n [] e k d low = absurd (omega (arith, low))
no_comma m n (b ∷ bs) e k d low = by_digit (digit_of b) (λ v is. not_comma b v is) (λ v h j under. no_comma (m * 16 + v) n bs h j d under) e k low
  where
    by_digit : (o : Option ℕ) → ((v : ℕ) → o ≡ Some v → (b == 44) ≡ false)
        → ((v : ℕ) → Some n ≡ digits_after (m * 16 + v) bs → (j : ℕ) → j < length bs → (get_or bs j d == 44) ≡ false)
        → Some n ≡ and_then o (λ v. digits_after (m * 16 + v) bs) → (j : ℕ) → j < suc (length bs) → (get_or (b ∷ bs) j d == 44) ≡ false
    by_digit None here later h j under = absurd (cc (h))
    by_digit (Some v) here later h zero under = here v refl
    by_digit (Some v) here later h (suc j) under = later v h j (omega (arith, under))

number_no_comma : (n : ℕ) (s : List ℕ) → Some n ≡ number_of s → (k d : ℕ) → k < length s → (get_or s k d == 44) ≡ false
number_no_comma n [] e k d low = absurd (cc (e))
number_no_comma n (b ∷ bs) e k d low = no_comma 0 n (b ∷ bs) e k d low

not_x : (n : ℕ) (s : List ℕ) → Some n ≡ number_of s → bytes_eq s (codes "x") ≡ false
unfolding digits_after
not_x n s e = by_test (bytes_eq s (codes "x")) refl
  where
    by_test : (b : Bool) → b ≡ bytes_eq s (codes "x") → b ≡ false
    by_test false is = refl
    by_test true is = absurd (let same : s ≡ codes "x" = (bytes_eq-Decides s (codes "x")).0 (sym is) in let none : Some n ≡ None = e ∙ ap number_of same in cc (none))

number_part : (n m : ℕ) (s : List ℕ) → Some n ≡ number_of s → Some m ≡ at_most 0xffff_ffff_ffff_ffff (Some n) → part_of s ≡ Some (Some m)
number_part n m s e fits = rw (not_x n s e) (ap (option_map (λ k. Some k)) (sym (fits ∙ is_hex s 0xffff_ffff_ffff_ffff n e)))

-- a first word of digits before a comma
cut_digits : (list : List ℕ) (i n : ℕ) → i < length list → get_or list i 0 ≡ 44 → Some n ≡ number_of (take i list)
    → comma_parts list ≡ take i list ∷ comma_parts (behind list i)
cut_digits list i n low comma e =
    let next : suc i ≡ i + 1 = omega arith in
    let whole : list ≡ take i list ++ (44 ∷ drop (i + 1) list) =
    sym (take-append-drop i list)
    ∙ ap (λ rest. take i list ++ rest) (drop-cons list i 0 low ∙ (ap (λ b. b ∷ drop (suc i) list) comma ∙ ap (λ j. 44 ∷ drop j list) next)) in
    let rest : drop (i + 1) list ≡ behind list i = sym (take_rest list (i + 1)) in
    ap comma_parts whole
    ∙ (slice_split_at (λ (b : ℕ). b == 44) (take i list) 44 (drop (i + 1) list) (number_no_comma n (take i list) e) refl
    ∙ ap (λ r. take i list ∷ comma_parts r) rest)

pub quick_first : (list s : List ℕ) (i n m : ℕ) → i < length list → get_or list i 0 ≡ 44 → s ≡ take i list → Some n ≡ number_of s
    → Some m ≡ at_most 0xffff_ffff_ffff_ffff (Some n) → Some (Some m, comma_parts (behind list i)) ≡ first_part (comma_parts list)
quick_first list s i n m low comma is e fits =
    let here : Some n ≡ number_of (take i list) = e ∙ ap number_of is in
    sym (parted list i (cut_digits list i n low comma here)
    ∙ ap (λ (o : Option (Option ℕ)). o >>= λ w. Some (w, comma_parts (behind list i))) (number_part n m (take i list) here fits))
