-- A list cut at each element that passes: its first part and the others.
use Rattle.std.proofs.Common.{◌≡◌, ℕ, ◌+◌, ◌-◌, ◌<◌, ◌≤◌, Bool, true, false, nat_lt, ◌==◌, Option, cond, List, [], ◌∷◌, Some, None, length, take, drop, arith, refl, length-drop}
use Rattle.std.specs.List.{slice_split, position, position_or_len}
use Rattle.std.proofs.lemmas.Bool.Decides.{nat_tests}
use Rattle.std.proofs.lemmas.List.{take_rest}
use Rattle.std.proofs.lemmas.List.Splits.{slice_split_first, slice_split_none, length-slice_split}
use Rattle.std.proofs.lemmas.List.Sums.{fails_before_first, position_or_len_is}
use Rattle.memchr.specs.Find.{IsFirstByte, is_byte}

-- some list has one part more than others
with_parts : {X : Type 0} (all : List (List X)) → 0 < length all → (first : List X) × (others : List (List X)) × (all ≡ first ∷ others)
with_parts [] some = absurd (omega arith)
with_parts (first ∷ others) some = (first, others, refl)

-- no list is cut into no parts
pub parts_of : {X : Type 0} (p : X → Bool) (xs : List X) → (first : List X) × (others : List (List X)) × (slice_split p xs ≡ first ∷ others)
parts_of p xs = with_parts (slice_split p xs) (omega (arith, length-slice_split p xs))

-- what was found, or not, of a test on two numbers
found : (n m i : ℕ) → Some i ≡ cond (nat_lt n m) (Some n) None → (n < m) × (i ≡ n)
found n m i e = grind (arith, nat_tests)

not_found : (n m : ℕ) → None ≡ cond (nat_lt n m) (Some n) None → m ≤ n
not_found n m e = grind (arith, nat_tests)

pub cut_at : {X : Type 0} (p : X → Bool) (xs : List X) (d : X) (i : ℕ) → Some i ≡ position p xs → (slice_split p xs ≡ take i xs ∷ slice_split p (take (length xs - (i + 1)) (drop (i + 1) xs))) × (length (take (length xs - (i + 1)) (drop (i + 1) xs)) < length xs)
cut_at p xs d i e =
    let at = found (position_or_len p xs) (length xs) i e in
    (rw (take_rest xs (i + 1), at.1) (slice_split_first p xs d at.0), rw (take_rest xs (i + 1)) (omega (arith, at.0, at.1, length-drop (i + 1) xs)))

pub uncut : {X : Type 0} (p : X → Bool) (xs : List X) → None ≡ position p xs → slice_split p xs ≡ xs ∷ []
uncut p xs e = slice_split_none p xs (λ k d inside. fails_before_first p xs k d (omega (arith, not_found (position_or_len p xs) (length xs) e)))

-- a test that doesn't hold
fails : (b : Bool) → (b ≡ true → ⊥) → b ≡ false
fails true h = absurd (h refl)
fails false h = refl

-- the place that a search found, or not, of two numbers
place : (n i : ℕ) → i < n → Some i ≡ cond (nat_lt i n) (Some i) None
place n i low = grind (arith, nat_tests)

no_place : (n : ℕ) → None ≡ cond (nat_lt n n) (Some n) None
no_place n = grind (arith, nat_tests)

-- the first byte of a kind, as a search finds it
pub found_first : (byte : ℕ) (xs : List ℕ) (r : Option ℕ) → IsFirstByte (is_byte byte) xs r → r ≡ position (λ b. b == byte) xs
found_first byte xs None nowhere =
    let past : position_or_len (λ b. b == byte) xs ≡ length xs = position_or_len_is (λ b. b == byte) xs (length xs) 0 (omega arith) (λ k low. fails _ (nowhere k (omega arith) low)) (λ inside. absurd (omega (arith, inside))) in
    rw past (no_place (length xs))
found_first byte xs (Some i) at =
    let here : position_or_len (λ b. b == byte) xs ≡ i = position_or_len_is (λ b. b == byte) xs i 0 (omega (arith, at.0.high)) (λ k low. fails _ (at.0.before k (omega arith) low)) (λ inside. at.1) in
    rw here (place (length xs) i at.0.high)
