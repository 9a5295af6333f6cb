-- A number of one digit, and one of two.
use Rattle.std.proofs.Common.{◌≡◌, ℕ, ◌+◌, ◌/◌, ◌%◌, ◌<◌, ◌≤◌, List, [], ◌∷◌, ◌++◌, Result, Ok, Err, OnOk, sym, ap, ◌∙◌, append_assoc, arith}
use Rattle.std.specs.Fmt.{decimal}
use Rattle.std.proofs.lemmas.Fmt.{decimal_digit, decimal_step}

pub one_digit : (n : ℕ) → n < 10 → decimal n ≡ (48 + n) ∷ []
one_digit n low = decimal_digit n low

pub two_digits : (n : ℕ) → 10 ≤ n → n < 100 → decimal n ≡ decimal (n / 10) ++ decimal (n % 10)
two_digits n low high = decimal_step n low (omega (arith, high)) ∙ ap (λ l. decimal (n / 10) ++ l) (sym (decimal_digit (n % 10) (omega arith)))

-- two parts that are put behind a text, one after the other
pub behind : (old mid new a b both : List ℕ) → mid ≡ old ++ a → new ≡ mid ++ b → both ≡ a ++ b → new ≡ old ++ both
behind old mid new a b both first last e = last ∙ (ap (λ l. l ++ b) first ∙ (append_assoc old a b ∙ ap (λ l. old ++ l) (sym e)))

-- what follows from what holds where a call succeeded
pub on_ok : {T E : Type 0} (r : Result T E) {P Q : Type 0} → OnOk r P → (P → Q) → OnOk r Q
on_ok (Ok value) h f = f h
on_ok (Err error) h f = h
