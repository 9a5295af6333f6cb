-- Bits of masks.
use Rattle.std.proofs.Common.{◌≡◌, ◌≢◌, ℕ, zero, suc, ◌+◌, ◌-◌, ◌*◌, ◌/◌, ◌%◌, ◌^◌, ◌<◌, ◌==◌, Bool, true, false, cond, min, nat_le, refl, sym, ap, ◌∙◌, arith, bit_and, bit_or, w64, pow_pos, shr-shr, ⊎_elim}
use Rattle.std.specs.Int.{bit_at, trailing_zeros}
use Rattle.std.specs.Int.RustNames.{bit_xor}
use Rattle.std.proofs.lemmas.Bool.{cases_lt}
use Rattle.std.proofs.lemmas.Bool.Decides.{nat_tests}
use Rattle.std.proofs.lemmas.Nat.{and_block, and_mask, mod_below, mod_low, pow-add, shr_split}
use Rattle.std.proofs.lemmas.Nat.Bits.{bit_at-lt, bit_at-trailing_zeros, bit_at-zero, bit_at_above, bit_at_and, bit_at_cat_high, bit_at_cat_low, bit_at_mask_below, bit_at_mask_inside, bit_at_or, bit_at_xor, ones_shl, same_from_bits, same_from_bits_below}
use Rattle.chi_lanes.specs.Columns.{changes_at}

-- what a bit says of a test
pub set_is : (b : Bool) → cond {A = ℕ} b 1 0 ≡ 1 → b ≡ true
set_is true e = refl
set_is false e = absurd (omega (arith, e))

pub clear_is : (b : Bool) → cond {A = ℕ} b 1 0 ≡ 0 → b ≡ false
clear_is true e = absurd (omega (arith, e))
clear_is false e = refl

-- a cut at 64 bits
low_bit : (n k : ℕ) → k < 64 → bit_at (n % 2 ^ 64) k ≡ bit_at n k
low_bit n k low = sym (bit_at_cat_low (n / 2 ^ 64) 64 (n % 2 ^ 64) k low) ∙ ap (λ m. bit_at m k) (shr_split n 64)

-- a shift by one bit, and a set one behind it
abbrev shifted : ℕ → ℕ
shifted m = bit_or (m * 2 % 2 ^ 64) 1

shifted_first : (m : ℕ) → bit_at (shifted m) 0 ≡ 1
shifted_first m =
    let e = bit_at_or (m * 2 % 2 ^ 64) 1 0 in
    let one : bit_at 1 0 ≡ 1 = refl in
    let small = bit_at-lt (m * 2 % 2 ^ 64) 0 in
    omega (arith, e, one, small)

shifted_next : (m k : ℕ) → suc k < 64 → bit_at (shifted m) (suc k) ≡ bit_at m k
shifted_next m k low =
    let e = bit_at_or (m * 2 % 2 ^ 64) 1 (suc k) in
    let one : bit_at 1 (suc k) ≡ 0 = bit_at_above 1 1 (suc k) (omega arith) (omega arith) in
    let cut = low_bit (m * 2) (suc k) low in
    let whole : m * 2 ^ 1 + 0 ≡ m * 2 = omega arith in
    let back : suc k - 1 ≡ k = omega arith in
    let high = sym (ap (λ n. bit_at n (suc k)) whole) ∙ (bit_at_cat_high m 1 0 (suc k) (omega arith) (omega arith) ∙ ap (bit_at m) back) in
    omega (arith, e, one, cut, high)

pub changes_are : (m k : ℕ) → k < 64 → bit_at (bit_xor m (shifted m)) k ≡ changes_at m k
changes_are m zero low = bit_at_xor m (shifted m) 0 ∙ ap (λ b. (bit_at m 0 + b) % 2) (shifted_first m)
changes_are m (suc k) low = bit_at_xor m (shifted m) (suc k) ∙ ap (λ b. (bit_at m (suc k) + b) % 2) (shifted_next m k low)

-- all bits from one on
from_case : (bit k : ℕ) (b : Bool) → nat_le bit k ≡ b → k < 64 → bit_at (2 ^ 64 - 2 ^ bit) k ≡ cond b 1 0
from_case bit k true e low = bit_at_mask_inside bit 64 k (grind (arith, nat_tests)) low
from_case bit k false e low = bit_at_mask_below bit 64 k (grind (arith, nat_tests))

pub from_is : (bit k : ℕ) → bit < 64 → k < 64 → bit_at ((2 ^ 64 - 1) * 2 ^ bit % 2 ^ 64) k ≡ cond (nat_le bit k) 1 0
from_is bit k within low = ap (λ m. bit_at m k) (ones_shl 64 bit (omega arith)) ∙ from_case bit k (nat_le bit k) refl low

-- the lowest set bit cleared
power_split : (t : ℕ) → 2 ^ (t + 1) ≡ 2 * 2 ^ t
power_split t = (let e : t + 1 ≡ 1 + t = omega arith in ap (λ n. 2 ^ n) e) ∙ pow-add 2 1 t

lowest_apart : (q t : ℕ) → bit_and (q * 2 ^ (t + 1) + 2 ^ t) (q * 2 ^ (t + 1) + (2 ^ t - 1)) ≡ q * 2 ^ (t + 1) + 0
lowest_apart q t =
    let double = power_split t in
    let some = pow_pos t in
    let ones : bit_and (2 ^ t) (2 ^ t - 1) ≡ 0 = and_mask (2 ^ t) t ∙ (let e : 2 ^ t ≡ 1 * 2 ^ t + 0 = omega arith in ap (λ n. n % 2 ^ t) e ∙ mod_low 1 t 0 some) in
    and_block (t + 1) q q (2 ^ t) (2 ^ t - 1) (omega (arith, double, some)) (omega (arith, double, some))
    ∙ (λ i. and_self q i * 2 ^ (t + 1) + ones i)
  where
    and_self : (n : ℕ) → bit_and n n ≡ n
    and_self n = same_from_bits (bit_and n n) n (λ k. bit_at_and n n k ∙ (let e : min (bit_at n k) (bit_at n k) ≡ bit_at n k = omega arith in e))

-- a number by its lowest set bit
record IsLowest (m t : ℕ) : Type 0 where
  set : bit_at m t ≡ 1
  below : (k : ℕ) → k < t → bit_at m k ≡ 0

by_lowest : (m t : ℕ) → IsLowest m t → m ≡ m / 2 ^ (t + 1) * 2 ^ (t + 1) + 2 ^ t
by_lowest m t is =
    let none : m % 2 ^ t ≡ 0 = same_from_bits_below t (m % 2 ^ t) 0 (mod_below m (2 ^ t) (pow_pos t)) (pow_pos t) (λ k low.
    sym (bit_at_cat_low (m / 2 ^ t) t (m % 2 ^ t) k low) ∙ (ap (λ n. bit_at n k) (shr_split m t) ∙ (is.below k low ∙ sym (bit_at-zero k)))) in
    let half : m / 2 ^ (t + 1) ≡ m / 2 ^ t / 2 = sym (shr-shr m t 1) in
    let odd : m / 2 ^ t % 2 ≡ 1 = is.set in
    let parts : m / 2 ^ t ≡ m / 2 ^ t / 2 * 2 + 1 = omega (arith, odd) in
    let double = power_split t in
    let start : m ≡ m / 2 ^ t * 2 ^ t + m % 2 ^ t = sym (shr_split m t) in
    let spread : m / 2 ^ t * 2 ^ t + m % 2 ^ t ≡ (m / 2 ^ t / 2 * 2 + 1) * 2 ^ t + 0 = λ i. parts i * 2 ^ t + none i in
    let moved : (m / 2 ^ t / 2 * 2 + 1) * 2 ^ t + 0 ≡ m / 2 ^ t / 2 * (2 * 2 ^ t) + 2 ^ t = omega arith in
    start ∙ (spread ∙ (moved ∙ ((λ i. sym half i * (2 * 2 ^ t) + 2 ^ t) ∙ ap (λ n. m / 2 ^ (t + 1) * n + 2 ^ t) (sym double))))

cleared : (m t : ℕ) → IsLowest m t → bit_and m (m - 1) ≡ m / 2 ^ (t + 1) * 2 ^ (t + 1) + 0
cleared m t is =
    let q = m / 2 ^ (t + 1) in
    let e : m ≡ q * 2 ^ (t + 1) + 2 ^ t = by_lowest m t is in
    let some = pow_pos t in
    let less : m - 1 ≡ q * 2 ^ (t + 1) + (2 ^ t - 1) = omega (arith, e, some) in
    (λ i. bit_and (e i) (less i)) ∙ lowest_apart q t

clear_case : (m t k : ℕ) (b : Bool) → (k == t) ≡ b → IsLowest m t → k < t + 1 → 0 ≡ cond b 0 (bit_at m k)
clear_case m t k true e is low = refl
clear_case m t k false e is low = sym (is.below k (let other : k ≢ t = grind (arith, nat_tests) in omega arith))

clear_at : (m t k : ℕ) → IsLowest m t → bit_at (bit_and m (m - 1)) k ≡ cond (k == t) 0 (bit_at m k)
clear_at m t k is =
    let q = m / 2 ^ (t + 1) in
    let double = power_split t in
    let some = pow_pos t in
    ap (λ n. bit_at n k) (cleared m t is)
    ∙ ⊎_elim (λ low. bit_at_cat_low q (t + 1) 0 k low ∙ (bit_at-zero k ∙ clear_case m t k (k == t) refl is low)) (λ high.
    let other : (k == t) ≡ false = apart k t (omega arith) in
    bit_at_cat_high q (t + 1) 0 k (pow_pos (t + 1)) high
    ∙ (sym (bit_at_cat_high q (t + 1) (2 ^ t) k (omega (arith, double, some)) high)
    ∙ (ap (λ n. bit_at n k) (sym (by_lowest m t is)) ∙ ap (λ b. cond b 0 (bit_at m k)) (sym other)))) (cases_lt k (t + 1))
  where
    apart : (a b : ℕ) → b < a → (a == b) ≡ false
    apart a b h = grind (arith, nat_tests)

pub lowest_cleared : (m k : ℕ) → m ≢ 0 → m < 2 ^ 64 → bit_at (bit_and m (m - 1)) k ≡ cond (k == trailing_zeros w64 m) 0 (bit_at m k)
lowest_cleared m k some small =
    let at = bit_at-trailing_zeros w64 m (omega (arith, some)) small in
    clear_at m (trailing_zeros w64 m) k (record { set = at.1; below = at.2 })
