-- Credit types are read as they are numbered, and only so.
use Rattle.std.proofs.Common.{◌≡◌, ℕ, zero, suc, ◌<◌, min, List, Option, Some, None, arith, refl, sym, subst}
use Rattle.std.proofs.lemmas.Bool.Decides.{nat_tests}
use Rattle.chi_flit.specs.declared.credit.CreditType.{CreditType}
use Rattle.chi_flit.specs.declared.credit.CreditType.TheVariants.{T0, T1, T2, T3}
use Rattle.chi_script.specs.Words.{small_of}
use Rattle.chi_flit.specs.Numbers.{credit_of}
use Rattle.chi_script.specs.Spelling.{IsNumber, IsSmall, IsCredit}
use Rattle.chi_script.proofs.NumberLemmas.{small_again}

-- a number below 255 that is read was written so
written_so : (n written : ℕ) → n < 255 → n ≡ min written 255 → written ≡ n
written_so n written low e = grind (arith, nat_tests)

number_so : (n : ℕ) (word : List ℕ) → n < 255 → IsSmall n word → IsNumber n word
number_so n word low is = subst (λ m. IsNumber m word) (written_so n is.0 low is.2) is.1

above : (n written : ℕ) → 3 < n → n ≡ min written 255 → 3 < written
above n written high e = grind (arith, nat_tests)

none_above : (n : ℕ) → 3 < n → credit_of n ≡ None
none_above n high = grind (arith, nat_tests)

pub credit_read : (n : ℕ) (word : List ℕ) → IsSmall n word → IsCredit (credit_of n) word
credit_read zero word is = number_so 0 word (omega arith) is
credit_read (suc zero) word is = number_so 1 word (omega arith) is
credit_read (suc (suc zero)) word is = number_so 2 word (omega arith) is
credit_read (suc (suc (suc zero))) word is = number_so 3 word (omega arith) is
credit_read (suc (suc (suc (suc n)))) word is =
    let number : ℕ = suc (suc (suc (suc n))) in
    let written : IsCredit None word = (is.0, is.1, above number is.0 (omega arith) is.2) in
    subst (λ credit. IsCredit credit word) (sym (none_above number (omega arith))) written

still_above : (written : ℕ) → 3 < written → 3 < min written 255
still_above written high = grind (arith, nat_tests)

pub credit_again : (credit : Option CreditType) (word : List ℕ) → IsCredit credit word → (n : ℕ) × (small_of word ≡ Some n) × (credit_of n ≡ credit)
credit_again (Some T0) word is = (0, small_again 0 word (0, is, refl), refl)
credit_again (Some T1) word is = (1, small_again 1 word (1, is, refl), refl)
credit_again (Some T2) word is = (2, small_again 2 word (2, is, refl), refl)
credit_again (Some T3) word is = (3, small_again 3 word (3, is, refl), refl)
credit_again None word is = (min is.0 255, small_again (min is.0 255) word (is.0, is.1, refl), none_above (min is.0 255) (still_above is.0 is.2))
