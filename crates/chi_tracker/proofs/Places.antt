-- The lowest clear place of a type in a word of owed credits.
use Rattle.std.proofs.Common.{◌≡◌, ℕ, zero, suc, ◌+◌, ◌*◌, ◌/◌, ◌<◌, ◌≤◌, Bool, cond, refl, sym, ap, ◌∙◌, arith, eq-eqb, ne_eqb}
use mathlib.Core.Logic.{dite}
use native.Mathlib.Decide.{ℕ_discrete}
use Rattle.std.specs.Int.{bit_at}
use Rattle.std.proofs.lemmas.Nat.Bits.{bit_at-lt}
use Rattle.chi_tracker.specs.Sums.{below}
use Rattle.chi_tracker.specs.Shape.{owed_in}
use Rattle.chi_tracker.specs.Steps.{clear_from, first_clear}

-- a sum by its first term
below_first : (f : ℕ → ℕ) (n : ℕ) → below f (suc n) ≡ f 0 + below (λ i. f (i + 1)) n
below_first f zero = omega arith
below_first f (suc n) = let a : f (suc n) ≡ f (n + 1) = ap f (omega arith) in omega (arith, below_first f n)

shift : (word start n : ℕ) → below (λ i. bit_at word (start + (i + 1))) n ≡ below (λ i. bit_at word (start + 1 + i)) n
shift word start zero = refl
shift word start (suc n) = let a : bit_at word (start + (n + 1)) ≡ bit_at word (start + 1 + n) = ap (bit_at word) (omega arith) in omega (arith, shift word start n)

found-clear : (start word n : ℕ) → below (λ i. bit_at word (start + i)) n < n → (bit_at word (clear_from start word n) ≡ 0) × (clear_from start word n < start + n) × (start ≤ clear_from start word n)
unfolding clear_from
found-clear start word zero l = absurd (omega arith)
found-clear start word (suc n) l = dite (ℕ_discrete (bit_at word start) 0)
    (λ e. let is : clear_from start word (suc n) ≡ start = ap (λ (b : Bool). cond b start (clear_from (start + 1) word n)) (eq-eqb (bit_at word start) 0 e) in
    (ap (bit_at word) is ∙ e, omega arith, omega arith))
    (λ d. let is : clear_from start word (suc n) ≡ clear_from (start + 1) word n = ap (λ (b : Bool). cond b start (clear_from (start + 1) word n)) (ne_eqb (bit_at word start) 0 d) in
    let f = below_first (λ i. bit_at word (start + i)) n in let g = shift word start n in let b = bit_at-lt word start in let z : bit_at word (start + 0) ≡ bit_at word start = ap (bit_at word) (omega arith) in
    let h = found-clear (start + 1) word n (omega arith) in (ap (bit_at word) is ∙ h.0, omega (arith, h.1), omega (arith, h.2)))

pub clear_place : (t word : ℕ) → owed_in t word < 8 → (bit_at word (first_clear (8 * t) word) ≡ 0) × (first_clear (8 * t) word < 8 * t + 8) × (8 * t ≤ first_clear (8 * t) word)
unfolding first_clear
clear_place t word l = found-clear (8 * t) word 8 l

-- the place found is the lowest that is clear
clear_at : (start word n k : ℕ) → start ≤ k → k < start + n → ((i : ℕ) → start ≤ i → i < k → bit_at word i ≡ 1) → bit_at word k ≡ 0 → clear_from start word n ≡ k
unfolding clear_from
clear_at start word zero k le lt set clear = absurd (omega arith)
clear_at start word (suc n) k le lt set clear = dite (ℕ_discrete k start)
    (λ e. ap (λ (b : Bool). cond b start (clear_from (start + 1) word n)) (eq-eqb (bit_at word start) 0 (ap (bit_at word) (sym e) ∙ clear)) ∙ sym e)
    (λ d. ap (λ (b : Bool). cond b start (clear_from (start + 1) word n)) (ne_eqb (bit_at word start) 0 (λ q. let h = set start (omega arith) (omega arith) in omega arith))
    ∙ clear_at (start + 1) word n k (omega arith) (omega arith) (λ i l u. set i (omega arith) u) clear)

pub clear_is : (t word k : ℕ) → 8 * t ≤ k → k < 8 * t + 8 → ((i : ℕ) → 8 * t ≤ i → i < k → bit_at word i ≡ 1) → bit_at word k ≡ 0 → k ≡ first_clear (8 * t) word
unfolding first_clear
clear_is t word k le lt set clear = sym (clear_at (8 * t) word 8 k le lt set clear)

-- the lowest clear place is within the type
clear_low : (start word n : ℕ) → start ≤ clear_from start word n
unfolding clear_from
clear_low start word zero = omega arith
clear_low start word (suc n) = dite (ℕ_discrete (bit_at word start) 0)
    (λ e. let is : clear_from start word (suc n) ≡ start = ap (λ (b : Bool). cond b start (clear_from (start + 1) word n)) (eq-eqb (bit_at word start) 0 e) in omega arith)
    (λ d. let is : clear_from start word (suc n) ≡ clear_from (start + 1) word n = ap (λ (b : Bool). cond b start (clear_from (start + 1) word n)) (ne_eqb (bit_at word start) 0 d) in omega (arith, clear_low (start + 1) word n))

pub clear_above : (t word : ℕ) → 8 * t ≤ first_clear (8 * t) word
unfolding first_clear
clear_above t word = clear_low (8 * t) word 8

-- the lowest clear place is one of the type
pub place_kind : (t word : ℕ) → first_clear (8 * t) word < 8 * t + 8 → first_clear (8 * t) word / 8 ≡ t
place_kind t word l = omega (arith, clear_above t word)
