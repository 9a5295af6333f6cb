-- Numbers are read as they are written, and only so.
use Rattle.std.proofs.Common.{◌≡◌, ℕ, ◌+◌, ◌*◌, ◌≤◌, nat_le, cond, List, [], ◌∷◌, Some, None, sym, ap, subst, arith}
use Rattle.std.proofs.lemmas.Bool.Decides.{nat_tests}
use Rattle.chi_script.proofs.NumberLemmas.{bound}
use Rattle.chi_trace.specs.Numbers.{digit_of, digits_from, hex_of, plain_of, unmarked, with_hex_digit}
use Rattle.chi_trace.specs.Spelling.{Continue, IsHex, IsPlain}

-- a digit more that still fits
fits : (most x k : ℕ) → cond (nat_le x most) (Some x) None ≡ Some k → (x ≤ most) × (x ≡ k)
fits most x k e = (grind (arith, nat_tests), grind (arith, nat_tests))

fits_so : (most x : ℕ) → x ≤ most → cond (nat_le x most) (Some x) None ≡ Some x
fits_so most x le = grind (arith, nat_tests)

digits_read : (most m : ℕ) (ds : List ℕ) (n : ℕ) → m ≤ most → digits_from most m ds ≡ Some n → Continue n m ds × (n ≤ most)
unfolding digits_from
digits_read most m [] n le e = let same : m ≡ n = cc in (sym same, omega (arith, same, le))
digits_read most m (d ∷ ds) n le e =
    let step = bound (with_hex_digit most m d) (λ k. digits_from most k ds) n e in
    let digit = bound (digit_of d) (λ v. cond (nat_le (m * 16 + v) most) (Some (m * 16 + v)) None) step.0 step.1 in
    let one = fits most (m * 16 + digit.0) step.0 digit.2 in
    let rest = digits_read most step.0 ds n (omega (arith, one.0, one.1)) step.2 in
    ((digit.0, digit.1, subst (λ (k : ℕ). Continue n k ds) (sym one.1) rest.0), rest.1)

pub plain_read : (most n : ℕ) (word : List ℕ) → plain_of most word ≡ Some n → IsPlain most n word
plain_read most n [] e = cc
plain_read most n (d ∷ ds) e = digits_read most 0 (d ∷ ds) n (omega arith) e

pub hex_read : (most n : ℕ) (word : List ℕ) → hex_of most word ≡ Some n → IsHex most n word
hex_read most n word e = plain_read most n (unmarked word) e

grows : (n m : ℕ) (ds : List ℕ) → Continue n m ds → m ≤ n
grows n m [] is = omega (arith, is)
grows n m (d ∷ ds) is = omega (arith, grows n (m * 16 + is.0) ds is.2)

digits_again : (most m : ℕ) (ds : List ℕ) (n : ℕ) → Continue n m ds → n ≤ most → digits_from most m ds ≡ Some n
unfolding digits_from
digits_again most m [] n is le = ap Some (sym is)
digits_again most m (d ∷ ds) n is le =
    let more : m * 16 + is.0 ≤ most = omega (arith, grows n (m * 16 + is.0) ds is.2, le) in
    rw (is.1, fits_so most (m * 16 + is.0) more) (digits_again most (m * 16 + is.0) ds n is.2 le)

pub plain_again : (most n : ℕ) (word : List ℕ) → IsPlain most n word → plain_of most word ≡ Some n
plain_again most n [] is = absurd is
plain_again most n (d ∷ ds) is = digits_again most 0 (d ∷ ds) n is.0 is.1

pub hex_again : (most n : ℕ) (word : List ℕ) → IsHex most n word → hex_of most word ≡ Some n
hex_again most n word is = plain_again most n (unmarked word) is
