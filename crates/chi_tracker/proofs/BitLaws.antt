-- Bits put into a number and taken out, and sets of entries in words of 64 bits.
use Rattle.std.proofs.Common.{◌≡◌, ◌≢◌, ℕ, zero, suc, ◌+◌, ◌-◌, ◌/◌, ◌%◌, ◌^◌, ◌<◌, ◌≤◌, List, [], ◌∷◌, length, slice_index, slice_set, bit_and, sym, ap, ◌∙◌, subst, arith, get_or-set_other, get_or-set_same, pow_pos, pow_mono, w64}
use mathlib.Core.Logic.{dite}
use native.Mathlib.Decide.{ℕ_discrete}
use Rattle.std.specs.Int.{bit_at}
use Rattle.std.proofs.lemmas.Nat.Bits.{bit_at_and, bit_at_or, bit_at_xor, bit_at-pow_same, bit_at-pow_other, bit_at_not, bit_at-lt}
use Rattle.chi_tracker.specs.Sums.{with_bit, without_bit, all_but, set_at, take_out}

pub with_here : (m e : ℕ) → bit_at (with_bit m e) e ≡ 1
with_here m e = omega (arith, bit_at_or m (2 ^ e) e, bit_at-pow_same e, bit_at-lt m e)

pub with_else : (m e i : ℕ) → i ≢ e → bit_at (with_bit m e) i ≡ bit_at m i
with_else m e i d = omega (arith, bit_at_or m (2 ^ e) i, bit_at-pow_other e i d)

pub dropped_here : (m e : ℕ) → bit_at (without_bit m e) e ≡ 0
dropped_here m e = omega (arith, bit_at_xor m (bit_and m (2 ^ e)) e, bit_at_and m (2 ^ e) e, bit_at-pow_same e, bit_at-lt m e)

pub dropped_else : (m e i : ℕ) → i ≢ e → bit_at (without_bit m e) i ≡ bit_at m i
dropped_else m e i d = omega (arith, bit_at_xor m (bit_and m (2 ^ e)) i, bit_at_and m (2 ^ e) i, bit_at-pow_other e i d, bit_at-lt m i)

pow_below : (k : ℕ) → k < 64 → 2 ^ k < 2 ^ 64
pow_below k l = let h : 2 ^ k ≤ 2 ^ 63 = pow_mono {i = k} {j = 63} (omega arith) in omega arith

but_bit : (k i : ℕ) → k < 64 → i < 64 → bit_at (all_but k) i ≡ 1 - bit_at (2 ^ k) i
but_bit k i lk li = bit_at_not w64 (2 ^ k) i (pow_below k lk) li

pub but_here : (word k : ℕ) → k < 64 → bit_at (bit_and word (all_but k)) k ≡ 0
but_here word k l = omega (arith, bit_at_and word (all_but k) k, but_bit k k l l, bit_at-pow_same k)

pub but_else : (word k i : ℕ) → k < 64 → i < 64 → i ≢ k → bit_at (bit_and word (all_but k)) i ≡ bit_at word i
but_else word k i lk li d = omega (arith, bit_at_and word (all_but k) i, but_bit k i lk li, bit_at-pow_other k i d, bit_at-lt word i)

-- a word of a list after a write is what was written, or 0 past the end
pub put_there : (xs : List ℕ) (i x k : ℕ) → bit_at (slice_index (slice_set xs i x) i) k ≤ bit_at x k
put_there [] i x k = let h : 0 / 2 ^ k ≡ 0 = zero_div k in omega arith
  where
    zero_div : (k : ℕ) → 0 / 2 ^ k ≡ 0
    zero_div k = let h : 0 < 2 ^ k = pow_pos k in omega arith
put_there (y ∷ ys) zero x k = omega arith
put_there (y ∷ ys) (suc i) x k = put_there ys i x k

pub taken_here : (words : List ℕ) (e : ℕ) → set_at (take_out words e) e ≡ 0
taken_here words e = omega (arith, put_there words (e / 64) (bit_and (slice_index words (e / 64)) (all_but (e % 64))) (e % 64), but_here (slice_index words (e / 64)) (e % 64) (omega arith))

pub same_place : (a b : ℕ) → a / 64 ≡ b / 64 → a % 64 ≡ b % 64 → a ≡ b
same_place a b q r = omega arith

pub taken_le : (words : List ℕ) (e i : ℕ) → set_at (take_out words e) i ≤ set_at words i
taken_le words e i = dite (ℕ_discrete (i / 64) (e / 64))
    (λ q. dite (ℕ_discrete (i % 64) (e % 64))
    (λ r. let d : i ≡ e = same_place i e q r in subst (λ (x : ℕ). set_at (take_out words e) x ≤ set_at words x) (sym d) (omega (arith, taken_here words e)))
    (λ r. let old = slice_index words (e / 64) in let x : ℕ = bit_and old (all_but (e % 64)) in
    let a : bit_at (slice_index (slice_set words (e / 64) x) (i / 64)) (i % 64) ≤ bit_at x (i % 64) = subst (λ (k : ℕ). bit_at (slice_index (slice_set words (e / 64) x) k) (i % 64) ≤ bit_at x (i % 64)) (sym q) (put_there words (e / 64) x (i % 64)) in
    let b : bit_at x (i % 64) ≡ bit_at old (i % 64) = but_else old (e % 64) (i % 64) (omega arith) (omega arith) r in
    let c : bit_at old (i % 64) ≡ set_at words i = ap (λ (k : ℕ). bit_at (slice_index words k) (i % 64)) (sym q) in omega arith))
    (λ d. let h = ap (λ (w : ℕ). bit_at w (i % 64)) (get_or-set_other words (e / 64) (i / 64) (bit_and (slice_index words (e / 64)) (all_but (e % 64))) 0 d) in omega arith)

-- the same as an equation at other entries, where the list has the word
pub taken_else : (words : List ℕ) (e i : ℕ) → i ≢ e → e / 64 < length words → set_at (take_out words e) i ≡ set_at words i
taken_else words e i d l = dite (ℕ_discrete (i / 64) (e / 64))
    (λ q. let old = slice_index words (e / 64) in let x : ℕ = bit_and old (all_but (e % 64)) in
    let w : slice_index (slice_set words (e / 64) x) (i / 64) ≡ x = ap (λ (k : ℕ). slice_index (slice_set words (e / 64) x) k) q ∙ get_or-set_same words (e / 64) x 0 l in
    let a = ap (λ (y : ℕ). bit_at y (i % 64)) w in
    let b : bit_at x (i % 64) ≡ bit_at old (i % 64) = but_else old (e % 64) (i % 64) (omega arith) (omega arith) (λ r. d (same_place i e q r)) in
    let c : bit_at old (i % 64) ≡ set_at words i = ap (λ (k : ℕ). bit_at (slice_index words k) (i % 64)) (sym q) in omega arith)
    (λ o. let h = ap (λ (w : ℕ). bit_at w (i % 64)) (get_or-set_other words (e / 64) (i / 64) (bit_and (slice_index words (e / 64)) (all_but (e % 64))) 0 o) in omega arith)

-- the first numbers are in a set, and one more is put in
pub with_more : (m m' e x : ℕ) → ((k : ℕ) → k < e → bit_at m k ≡ 1) → x ≡ e → m' ≡ with_bit m x → (k : ℕ) → k < e + 1 → bit_at m' k ≡ 1
with_more m m' e x all is put k l = ap (λ z. bit_at z k) put ∙ dite (ℕ_discrete k x) (λ q. ap (bit_at (with_bit m x)) q ∙ with_here m x) (λ d. with_else m x k d ∙ all k (omega arith))
