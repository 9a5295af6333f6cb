-- Digits of a number, two at once.
use Rattle.std.proofs.Common.{◌≡◌, ℕ, ◌+◌, ◌-◌, ◌*◌, ◌<◌, ◌≤◌, Bool, true, false, nat_le, cond, List, [], ◌∷◌, length, take, drop, Option, Some, None, refl, sym, ap, ◌∙◌, get_or, arith}
use Rattle.std.proofs.lemmas.Bool.Decides.{nat_tests}
use Rattle.std.proofs.lemmas.List.{take_rest}
use Rattle.chi_script.specs.Words.{◌>>=◌}
use Rattle.chi_trace.proofs.ColumnLemmas.{empty}
use Rattle.chi_trace.specs.Numbers.{digit_of, digits_from, with_hex_digit}

-- what is above the most, and what isn't
abbrev up_to : ℕ → ℕ → Option ℕ
up_to most n = cond (nat_le n most) (Some n) None

pub above : (most n : ℕ) → most < n → None ≡ up_to most n
above most n high = grind (arith, nat_tests)

pub within : (most n : ℕ) → n ≤ most → Some n ≡ up_to most n
within most n low = grind (arith, nat_tests)

high_of : (most n : ℕ) → nat_le n most ≡ false → most < n
high_of most n e = grind (arith, nat_tests)

same : (b : Bool) (n : ℕ) → (cond b (Some n) None >>= λ k. Some k) ≡ cond b (Some n) None
same true n = refl
same false n = refl

-- one of two isn't a digit
pub first_none : (most n d e : ℕ) → digit_of d ≡ None → digits_from most n (d ∷ e ∷ []) ≡ None
unfolding digits_from
first_none most n d e is = rw is refl

behind_none : (most e : ℕ) (o : Option ℕ) → digit_of e ≡ None → (o >>= λ m. with_hex_digit most m e >>= λ k. Some k) ≡ None
behind_none most e None is = refl
behind_none most e (Some m) is = rw is refl

pub second_none : (most n d e : ℕ) → digit_of e ≡ None → digits_from most n (d ∷ e ∷ []) ≡ None
unfolding digits_from
second_none most n d e is = behind_none most e (with_hex_digit most n d) is

-- both are
by_first : (most n v w : ℕ) (b : Bool) → nat_le (n * 16 + v) most ≡ b
    → (cond b (Some (n * 16 + v)) None >>= λ m. cond (nat_le (m * 16 + w) most) (Some (m * 16 + w)) None >>= λ k. Some k) ≡ up_to most (n * 256 + (v * 16 + w))
by_first most n v w true e =
    let sum : (n * 16 + v) * 16 + w ≡ n * 256 + (v * 16 + w) = omega arith in
    same (nat_le ((n * 16 + v) * 16 + w) most) ((n * 16 + v) * 16 + w) ∙ ap (up_to most) sum
by_first most n v w false e = above most (n * 256 + (v * 16 + w)) (omega (arith, high_of most (n * 16 + v) e))

pub both : (most n d e v w : ℕ) → digit_of d ≡ Some v → digit_of e ≡ Some w → digits_from most n (d ∷ e ∷ []) ≡ up_to most (n * 256 + (v * 16 + w))
unfolding digits_from
both most n d e v w one two = rw (one, two) (by_first most n v w (nat_le (n * 16 + v) most) refl)

-- digits in front of others
front : (most : ℕ) (o : Option ℕ) (next : ℕ → Option ℕ) (e : ℕ) → ((o >>= λ m. with_hex_digit most m e >>= λ k. Some k) >>= next) ≡ (o >>= λ m. with_hex_digit most m e >>= next)
front most None next e = refl
front most (Some m) next e = by (with_hex_digit most m e)
  where
    by : (o : Option ℕ) → ((o >>= λ k. Some k) >>= next) ≡ (o >>= next)
    by None = refl
    by (Some k) = refl

pub two_first : (most n d e : ℕ) (ds : List ℕ) → (digits_from most n (d ∷ e ∷ []) >>= λ m. digits_from most m ds) ≡ digits_from most n (d ∷ e ∷ ds)
unfolding digits_from
two_first most n d e ds = front most (with_hex_digit most n d) (λ m. digits_from most m ds) e

-- a list of two or more, and of one
abbrev pub behind : List ℕ → ℕ → List ℕ
behind ds n = take (length ds - n) (drop n ds)

pub two_of : (ds : List ℕ) → 2 ≤ length ds → ds ≡ get_or ds 0 0 ∷ get_or ds 1 0 ∷ behind ds 2
two_of [] long = absurd (omega (arith, long))
two_of (d ∷ []) long = absurd (omega (arith, long))
two_of (d ∷ e ∷ ds) long = ap (λ (rest : List ℕ). d ∷ e ∷ rest) (sym (take_rest (d ∷ e ∷ ds) 2))

pub one_of : (ds : List ℕ) → 1 ≤ length ds → length ds < 2 → ds ≡ get_or ds 0 0 ∷ []
one_of [] some few = absurd (omega (arith, some))
one_of (d ∷ []) some few = refl
one_of (d ∷ e ∷ ds) some few = absurd (omega (arith, few))

pub none_of : (ds : List ℕ) → length ds < 1 → ds ≡ []
none_of ds few = empty ds (grind (arith, nat_tests))

pub last_digit : (most n d : ℕ) → digits_from most n (d ∷ []) ≡ with_hex_digit most n d
unfolding digits_from
last_digit most n d = by (with_hex_digit most n d)
  where
    by : (o : Option ℕ) → (o >>= λ k. Some k) ≡ o
    by None = refl
    by (Some k) = refl

pub no_digit : (most n : ℕ) → digits_from most n [] ≡ Some n
unfolding digits_from
no_digit most n = refl
