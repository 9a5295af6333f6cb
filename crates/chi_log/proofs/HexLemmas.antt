-- A word that is all digits has no 0x in front.
use Rattle.std.proofs.Common.{◌≡◌, ℕ, ◌+◌, ◌*◌, ◌<◌, ◌≤◌, ◌==◌, ◌&&◌, Bool, true, false, cond, List, [], ◌∷◌, Option, Some, None, lit≤, get_or, length, refl, sym, ap, ◌∙◌, arith}
use Rattle.std.proofs.lemmas.Bool.Decides.{nat_tests}
use Rattle.chi_lanes.specs.Numbers.{digit_of, digits_after, number_of}
use Rattle.chi_log.specs.Numbers.{and_then, at_most, credit_of, hex_of, id_of, unmarked}

-- an x is no digit
no_digit : (d e : ℕ) → (d == 48 && e == 120) ≡ true → digit_of e ≡ None
no_digit d e h = grind (arith, nat_tests, h)

stops : (o : Option ℕ) (n e : ℕ) (ds : List ℕ) → digit_of e ≡ None → and_then o (λ v. digits_after (n * 16 + v) (e ∷ ds)) ≡ None
unfolding digits_after
stops None n e ds h = refl
stops (Some v) n e ds h = rw h refl

all_digits : (word : List ℕ) (n : ℕ) → Some n ≡ number_of word → unmarked word ≡ word
unfolding digits_after
all_digits [] n h = refl
all_digits (d ∷ []) n h = refl
all_digits (d ∷ e ∷ ds) n h = by_mark (d == 48 && e == 120) refl
  where
    by_mark : (b : Bool) → b ≡ (d == 48 && e == 120) → cond b ds (d ∷ e ∷ ds) ≡ d ∷ e ∷ ds
    by_mark false is = refl
    by_mark true is = absurd (let none = stops (digit_of d) 0 e ds (no_digit d e (sym is)) in let both : Some n ≡ None = h ∙ none in cc (both))

pub is_hex : (word : List ℕ) (most n : ℕ) → Some n ≡ number_of word → at_most most (Some n) ≡ hex_of most word
is_hex word most n h = ap (at_most most) h ∙ ap (λ w. at_most most (number_of w)) (sym (all_digits word n h))

-- ids of one digit, and of two
small_digit : (d v : ℕ) → digit_of d ≡ Some v → v < 16
small_digit d v e = grind (arith, nat_tests, e)

abbrev IsSmall : Option ℕ → Type 0
IsSmall o = (v : ℕ) → o ≡ Some v → v < 16

one_is : (most : ℕ) (o : Option ℕ) → 15 ≤ most → IsSmall o → at_most most (and_then o (λ v. Some (0 * 16 + v))) ≡ o
one_is most None large small = refl
one_is most (Some v) large small = let low = small v refl in grind (arith, nat_tests, low, large)

pub id_of_one : (d : ℕ) → id_of (d ∷ []) ≡ digit_of d
unfolding digits_after
id_of_one d = one_is 0xffff (digit_of d) (lit≤ tt) (λ v is. small_digit d v is)

pub credit_of_one : (d : ℕ) → credit_of (d ∷ []) ≡ digit_of d
unfolding digits_after
credit_of_one d = one_is 0xf (digit_of d) (lit≤ tt) (λ v is. small_digit d v is)

abbrev pub two_of : Option ℕ → Option ℕ → Option ℕ
two_of high low = and_then high (λ v. and_then low (λ w. Some (v * 16 + w)))

two_are : (high low : Option ℕ) → IsSmall high → IsSmall low
    → at_most 0xffff (and_then high (λ v. and_then low (λ w. Some ((0 * 16 + v) * 16 + w)))) ≡ two_of high low
two_are None low small few = refl
two_are (Some v) None small few = refl
two_are (Some v) (Some w) small few = let under = small v refl in let below = few w refl in grind (arith, nat_tests, under, below)

none_of_two : (high : Option ℕ) → None ≡ two_of high None
none_of_two None = refl
none_of_two (Some v) = refl

pub id_of_two : (d e : ℕ) → id_of (d ∷ e ∷ []) ≡ two_of (digit_of d) (digit_of e)
unfolding digits_after
id_of_two d e = by_mark (d == 48 && e == 120) refl
  where
    by_mark : (b : Bool) → b ≡ (d == 48 && e == 120) → at_most 0xffff (number_of (cond b [] (d ∷ e ∷ []))) ≡ two_of (digit_of d) (digit_of e)
    by_mark false is = two_are (digit_of d) (digit_of e) (λ v h. small_digit d v h) (λ v h. small_digit e v h)
    by_mark true is = rw (no_digit d e (sym is)) (none_of_two (digit_of d))

-- a text of one byte, and of two
pub one_byte : (xs : List ℕ) → 1 ≤ length xs → length xs ≤ 1 → xs ≡ get_or xs 0 0 ∷ []
one_byte [] some few = absurd (omega (arith, some))
one_byte (x ∷ []) some few = refl
one_byte (x ∷ y ∷ xs) some few = absurd (omega (arith, few))

pub two_bytes : (xs : List ℕ) → 2 ≤ length xs → length xs ≤ 2 → xs ≡ get_or xs 0 0 ∷ (get_or xs 1 0 ∷ [])
two_bytes [] some few = absurd (omega (arith, some))
two_bytes (x ∷ []) some few = absurd (omega (arith, some))
two_bytes (x ∷ y ∷ []) some few = refl
two_bytes (x ∷ y ∷ z ∷ xs) some few = absurd (omega (arith, few))
