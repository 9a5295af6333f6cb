-- Numbers are read as they are written, and only so.
use Rattle.std.proofs.Common.{◌≡◌, ℕ, zero, suc, ◌+◌, ◌-◌, ◌*◌, ◌^◌, ◌<◌, ◌≤◌, ◌==◌, ◌&&◌, Bool, true, false, min, List, [], ◌∷◌, length, get_or, Option, Some, None, rules, arith, lit<, refl, sym, ap, ◌∙◌}
use Rattle.std.specs.Str.{all_ascii_digits}
use Rattle.std.specs.Char.{is_ascii_digit}
use Rattle.std.specs.Fmt.{decimal}
use Rattle.std.proofs.lemmas.Bool.Decides.{nat_tests}
use Rattle.std.proofs.lemmas.Fmt.{digits_decimal, digits_value-decimal, decimal-digits_value, first_decimal, decimal_nonempty, length-decimal-le}
use Rattle.std.proofs.lemmas.Str.Parse.{IsNumeralModel, numerals_by_fold}
use Rattle.chi_script.specs.Words.{◌>>=◌, with_digit, digits_of, number_of, small_of}
use Rattle.chi_script.specs.Spelling.{IsNumber, IsSmall}

-- the number that digits give, whatever its size
abbrev pub value : ℕ → List ℕ → ℕ
value n [] = n
value n (d ∷ ds) = value (10 * n + (d - 48)) ds

pub own : IsNumeralModel (λ ds. all_ascii_digits ds ≡ true) (value 0)
own = numerals_by_fold _ (search rules) value (search rules)

grows : (n : ℕ) (ds : List ℕ) → n ≤ value n ds
grows n [] = omega arith
grows n (d ∷ ds) = omega (arith, grows (10 * n + (d - 48)) ds)

-- a digit more is read where it is a digit and the number still fits
digit_some : (n d m : ℕ) → with_digit n d ≡ Some m → (is_ascii_digit d ≡ true) × (m ≡ 10 * n + (d - 48)) × (m < 2 ^ 64)
digit_some n d m e = (grind (arith, nat_tests), grind (arith, nat_tests), grind (arith, nat_tests))

digit_fits : (n d : ℕ) → is_ascii_digit d ≡ true → 10 * n + (d - 48) < 2 ^ 64 → with_digit n d ≡ Some (10 * n + (d - 48))
digit_fits n d is fits = grind (arith, nat_tests)

-- what was read is all digits, and their value fits
pub record AreDigits (n : ℕ) (ds : List ℕ) (m : ℕ) : Type 0 where
  pub digits : all_ascii_digits ds ≡ true
  pub value_is : m ≡ value n ds
  pub fits : m < 2 ^ 64

pub and_true : (a b : Bool) → a ≡ true → b ≡ true → (a && b) ≡ true
and_true a b x y = rw (x, y) refl

pub bound : {A B : Type 0} (step : Option A) (next : A → Option B) (y : B) → (step >>= next) ≡ Some y → (x : A) × (step ≡ Some x) × (next x ≡ Some y)
bound None next y e = cc
bound (Some x) next y e = (x, refl, e)

pub digits_read : (n : ℕ) (ds : List ℕ) (m : ℕ) → n < 2 ^ 64 → digits_of n ds ≡ Some m → AreDigits n ds m
unfolding digits_of
digits_read n [] m small e = let same : m ≡ n = cc in record { digits = refl; value_is = same; fits = omega (arith, same) }
digits_read n (d ∷ ds) m small e =
    let step = bound (with_digit n d) (λ k. digits_of k ds) m e in
    let one = digit_some n d step.0 step.1 in
    let rest = digits_read step.0 ds m (omega (arith, one.1, one.2)) step.2 in
    record { digits = and_true (is_ascii_digit d) (all_ascii_digits ds) one.0 rest.digits; value_is = rest.value_is ∙ ap (λ h. value h ds) one.1; fits = rest.fits }

pub both : (a b : Bool) → (a && b) ≡ true → (a ≡ true) × (b ≡ true)
both true b e = (refl, e)
both false b e = cc

pub digits_again : (n : ℕ) (ds : List ℕ) → all_ascii_digits ds ≡ true → value n ds < 2 ^ 64 → digits_of n ds ≡ Some (value n ds)
unfolding digits_of
digits_again n [] all fits = refl
digits_again n (d ∷ ds) all fits =
    let each = both (is_ascii_digit d) (all_ascii_digits ds) all in
    rw (digit_fits n d each.0 (omega (arith, grows (10 * n + (d - 48)) ds, fits))) (digits_again (10 * n + (d - 48)) ds each.1 fits)

unit : (o : Option ℕ) → o ≡ (o >>= λ m. Some m)
unit None = refl
unit (Some m) = refl

-- a word of one digit is that digit
pub one_digit : (word : List ℕ) (d : ℕ) → 1 ≤ length word → length word < 2 → with_digit 0 (get_or word 0 d) ≡ number_of word
unfolding digits_of
one_digit [] d low high = absurd (omega (arith, low))
one_digit (b ∷ []) d low high = unit (with_digit 0 b)
one_digit (b ∷ next ∷ more) d low high = absurd (omega (arith, high))

-- a word that is read has a digit, and a zero at its front only alone
shape : (word : List ℕ) (n : ℕ) → number_of word ≡ Some n → (digits_of 0 word ≡ Some n) × (0 < length word) × (get_or word 0 0 ≡ 48 → length word ≡ 1)
shape [] n e = cc
shape (d ∷ []) n e = (e, omega arith, λ _. refl)
shape (d ∷ more ∷ ds) n e = (grind (arith, nat_tests), omega arith, λ zero_first. grind (arith, nat_tests))

plain : (word : List ℕ) → 0 < length word → (get_or word 0 0 ≡ 48 → length word ≡ 1) → number_of word ≡ digits_of 0 word
plain [] some lead = absurd (omega arith)
plain (d ∷ []) some lead = refl
plain (d ∷ more ∷ ds) some lead = grind (arith, nat_tests)

pub number_read : (word : List ℕ) (n : ℕ) → number_of word ≡ Some n → IsNumber n word
number_read word n e =
    let written = shape word n e in
    let ds = digits_read 0 word n (omega arith) written.0 in
    let spelled = decimal-digits_value own word ds.digits written.1 written.2 (omega (arith, ds.value_is, ds.fits)) in
    (ds.fits, sym spelled ∙ ap decimal (sym ds.value_is))

length_zero : length (decimal 0) ≡ 1
length_zero = omega (arith, length-decimal-le 1 0 (lit< tt) (lit< tt) (lit< tt), decimal_nonempty 0 (lit< tt))

leads : (n : ℕ) → n < 2 ^ 64 → get_or (decimal n) 0 0 ≡ 48 → length (decimal n) ≡ 1
leads zero small e = length_zero
leads (suc n) small e = let above = first_decimal (suc n) (omega arith) small in absurd (omega arith)

pub number_again : (n : ℕ) (word : List ℕ) → IsNumber n word → number_of word ≡ Some n
number_again n word is =
    let same = digits_value-decimal own n is.0 in
    rw is.1 (plain (decimal n) (decimal_nonempty n is.0) (leads n is.0) ∙ (digits_again 0 (decimal n) (digits_decimal own n is.0) (omega (arith, same, is.0)) ∙ ap Some same))

pub small_read : (word : List ℕ) (n : ℕ) → small_of word ≡ Some n → IsSmall n word
small_read word n e =
    let read = bound (number_of word) (λ m. Some (min m 255)) n e in
    let capped : n ≡ min read.0 255 = cc in
    (read.0, number_read word read.0 read.1, capped)

pub small_again : (n : ℕ) (word : List ℕ) → IsSmall n word → small_of word ≡ Some n
small_again n word is = rw (number_again is.0 word is.1, is.2) refl

-- what is below 256 is read as it is
uncapped : (o : Option ℕ) → ((m : ℕ) → o ≡ Some m → m ≤ 255) → o ≡ ((o >>= λ m. Some m) >>= λ n. Some (min n 255))
uncapped None low = refl
uncapped (Some m) low = let few = low m refl in ap Some (omega (arith, few))

low_digit : (d m : ℕ) → with_digit 0 d ≡ Some m → m < 10
low_digit d m e = let one = digit_some 0 d m e in grind (arith, nat_tests)

low_pair : (n d m : ℕ) → n < 10 → with_digit n d ≡ Some m → m < 100
low_pair n d m low e = let one = digit_some n d m e in grind (arith, nat_tests)

-- a word of one digit, read as a small number
pub one_small : (word : List ℕ) (d : ℕ) → 1 ≤ length word → length word < 2 → with_digit 0 (get_or word 0 d) ≡ small_of word
unfolding digits_of
one_small [] d low high = absurd (omega (arith, low))
one_small (b ∷ []) d low high = uncapped (with_digit 0 b) (λ m e. let few = low_digit b m e in omega (arith, few))
one_small (b ∷ next ∷ more) d low high = absurd (omega (arith, high))

-- a second digit behind the first
second_digit : (o : Option ℕ) (b : ℕ) → ((m : ℕ) → o ≡ Some m → m < 10) → (o >>= λ m. with_digit m b) ≡ ((o >>= λ m. with_digit m b >>= λ k. Some k) >>= λ n. Some (min n 255))
second_digit None b low = refl
second_digit (Some m) b low = uncapped (with_digit m b) (λ k e. let few = low_pair m b k (low m refl) e in omega (arith, few))

-- a word of two digits, read as a small number
pub two_small : (a b : ℕ) → (a == 48) ≡ false → (with_digit 0 a >>= λ m. with_digit m b) ≡ small_of (a ∷ b ∷ [])
unfolding digits_of
two_small a b other = rw other (second_digit (with_digit 0 a) b (low_digit a))

pub two_bytes : (word : List ℕ) (d e : ℕ) → 2 ≤ length word → length word < 3 → small_of (get_or word 0 d ∷ get_or word 1 e ∷ []) ≡ small_of word
two_bytes [] d e low high = absurd (omega (arith, low))
two_bytes (a ∷ []) d e low high = absurd (omega (arith, low))
two_bytes (a ∷ b ∷ []) d e low high = refl
two_bytes (a ∷ b ∷ c ∷ more) d e low high = absurd (omega (arith, high))
