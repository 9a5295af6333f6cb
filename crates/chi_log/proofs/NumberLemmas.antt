-- Digits one after the other, of a number that stays within 64 bits.
use Rattle.std.proofs.Common.{◌≡◌, ℕ, suc, ◌+◌, ◌*◌, ◌<◌, ◌≤◌, List, [], ◌∷◌, Option, Some, None, refl, sym, ap, ◌∙◌, arith, drop, length, get_or}
use Rattle.std.proofs.lemmas.Bool.Decides.{nat_tests}
use Rattle.std.proofs.lemmas.List.{drop_all}
use Rattle.std.proofs.Math.Seq.{drop-cons}
use Rattle.chi_lanes.specs.Numbers.{digit_of, digits_after}
use Rattle.chi_log.specs.Numbers.{and_then, at_most, with_digit}

abbrev pub most : ℕ
most = 0xffff_ffff_ffff_ffff

small : (d v : ℕ) → digit_of d ≡ Some v → v < 16
small d v e = grind (arith, nat_tests, e)

-- a number that is too large stays so
over : (n : ℕ) (ds : List ℕ) → most < n → at_most most (digits_after n ds) ≡ None
unfolding digits_after
over n [] h = grind (arith, nat_tests, h)
over n (d ∷ ds) h = by_digit (digit_of d) (λ v. over (n * 16 + v) ds (omega (arith, h)))
  where
    by_digit : (o : Option ℕ) → ((v : ℕ) → at_most most (digits_after (n * 16 + v) ds) ≡ None)
        → at_most most (and_then o (λ v. digits_after (n * 16 + v) ds)) ≡ None
    by_digit None later = refl
    by_digit (Some v) later = later v

-- one digit more
pub one_more : (n d : ℕ) (ds : List ℕ) (m : ℕ) → with_digit n d ≡ Some m → at_most most (digits_after n (d ∷ ds)) ≡ at_most most (digits_after m ds)
unfolding digits_after
one_more n d ds m e = by_digit (digit_of d) e
  where
    by_digit : (o : Option ℕ) → and_then o (λ v. at_most most (Some (n * 16 + v))) ≡ Some m
        → at_most most (and_then o (λ v. digits_after (n * 16 + v) ds)) ≡ at_most most (digits_after m ds)
    by_digit None h = absurd (cc (h))
    by_digit (Some v) h = ap (λ k. at_most most (digits_after k ds)) (grind (arith, nat_tests, h))

pub too_large : (n d : ℕ) (ds : List ℕ) → with_digit n d ≡ None → at_most most (digits_after n (d ∷ ds)) ≡ None
unfolding digits_after
too_large n d ds e = by_digit (digit_of d) e
  where
    by_digit : (o : Option ℕ) → and_then o (λ v. at_most most (Some (n * 16 + v))) ≡ None
        → at_most most (and_then o (λ v. digits_after (n * 16 + v) ds)) ≡ None
    by_digit None h = refl
    by_digit (Some v) h = over (n * 16 + v) ds (grind (arith, nat_tests, h))

-- the same at a place of a text
pub at_more : (text : List ℕ) (n i m : ℕ) → i < length text → Some m ≡ with_digit n (get_or text i 0)
    → at_most most (digits_after m (drop (i + 1) text)) ≡ at_most most (digits_after n (drop i text))
at_more text n i m low e =
    let next : suc i ≡ i + 1 = omega arith in
    sym (one_more n (get_or text i 0) (drop (i + 1) text) m (sym e))
    ∙ ap (λ t. at_most most (digits_after n t)) (sym (drop-cons text i 0 low ∙ ap (λ j. get_or text i 0 ∷ drop j text) next))

pub at_wrong : (text : List ℕ) (n i : ℕ) → i < length text → None ≡ with_digit n (get_or text i 0)
    → None ≡ at_most most (digits_after n (drop i text))
at_wrong text n i low e =
    sym (too_large n (get_or text i 0) (drop (suc i) text) (sym e))
    ∙ ap (λ t. at_most most (digits_after n t)) (sym (drop-cons text i 0 low))

pub at_end : (text : List ℕ) (n i : ℕ) → length text ≤ i → n ≤ most → Some n ≡ at_most most (digits_after n (drop i text))
unfolding digits_after
at_end text n i past small = rw (drop_all i text) (grind (arith, nat_tests, small))

-- it fits
pub fits_more : (n d m : ℕ) → Some m ≡ with_digit n d → m ≤ most
fits_more n d m e = by_digit (digit_of d) e
  where
    by_digit : (o : Option ℕ) → Some m ≡ and_then o (λ v. at_most most (Some (n * 16 + v))) → m ≤ most
    by_digit None h = absurd (cc (h))
    by_digit (Some v) h = grind (arith, nat_tests, h)
