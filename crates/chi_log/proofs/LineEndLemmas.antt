-- The first byte of a kind, as a search finds it.
use Rattle.std.proofs.Common.{◌≡◌, ℕ, ◌<◌, ◌==◌, nat_lt, cond, Bool, true, false, List, length, Option, Some, None, refl, arith}
use Rattle.std.specs.List.{position, position_or_len}
use Rattle.std.proofs.lemmas.Bool.Decides.{nat_tests}
use Rattle.std.proofs.lemmas.List.Sums.{position_or_len_is}
use Rattle.memchr.specs.Find.{IsFirstByte, is_byte}

-- a test that doesn't hold
fails : (b : Bool) → (b ≡ true → ⊥) → b ≡ false
fails true h = absurd (h refl)
fails false h = refl

-- the place that a search found, or not, of two numbers
place : (n i : ℕ) → i < n → Some i ≡ cond (nat_lt i n) (Some i) None
place n i low = grind (arith, nat_tests)

no_place : (n : ℕ) → None ≡ cond (nat_lt n n) (Some n) None
no_place n = grind (arith, nat_tests)

pub found_first : (byte : ℕ) (xs : List ℕ) (r : Option ℕ) → IsFirstByte (is_byte byte) xs r → r ≡ position (λ b. b == byte) xs
found_first byte xs None nowhere =
    let past : position_or_len (λ b. b == byte) xs ≡ length xs =
    position_or_len_is (λ b. b == byte) xs (length xs) 0 (omega arith) (λ k low. fails _ (nowhere k (omega arith) low)) (λ inside. absurd (omega (arith, inside))) in
    rw past (no_place (length xs))
found_first byte xs (Some i) at =
    let here : position_or_len (λ b. b == byte) xs ≡ i =
    position_or_len_is (λ b. b == byte) xs i 0 (omega (arith, at.0.high)) (λ k low. fails _ (at.0.before k (omega arith) low)) (λ inside. at.1) in
    rw here (place (length xs) i at.0.high)
