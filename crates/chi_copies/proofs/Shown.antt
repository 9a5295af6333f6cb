-- A set where the home has its words, as bits.
use Rattle.std.proofs.Common.{arith, ◌≡◌, ℕ, ◌+◌, ◌/◌, ◌%◌, ◌^◌, refl, sym, ap, subst, ◌∙◌, bit_or}
use Rattle.std.specs.Int.{bit_at}
use Rattle.std.proofs.lemmas.Nat.{shr-shr}
use Rattle.std.specs.Prelude.{Bool, true, false, ◌&&◌, ◌||◌, ◌==◌, not, if◌then◌else◌, bit_and}
use Rattle.chi_copies.specs.Copies.{Held, Copies, same_held, shown_of}
use Rattle.chi_copies.specs.Observed.{shown_all}
use Rattle.chi_copies.specs.Sets.{place_of, place_of_copy}
use Rattle.chi_copies.proofs.Bits.{and_bits, each_is, or_bits}
use Rattle.chi_copies.proofs.Finite.{left, right, both, or_left, or_right, either, turned, in_image, out_image}
use Rattle.chi_copies.proofs.Sets.{same_bool, same_is, same_itself}

-- such a copy, stored to or not
abbrev with_stored : Held → Bool → Held
with_stored k b = record { copy = k.copy; cancelled = k.cancelled; stored = b }

from_either : (S : Copies) (k : Held) → (b : Bool) → S (with_stored k b) ≡ true → (S (with_stored k false) || S (with_stored k true)) ≡ true
from_either S k true e = or_right (S (with_stored k false)) _ e
from_either S k false e = or_left (S (with_stored k false)) _ e

again : (k : Held) → k.stored ≡ false → same_held (shown_of k) k ≡ true
again k e = subst (λ (h : Held). same_held h k ≡ true) (λ i. record { copy = k.copy; cancelled = k.cancelled; stored = e i }) (same_itself k)

shown_is : (S : Copies) (k : Held) → shown_all S k ≡ ((S (with_stored k false) || S (with_stored k true)) && not k.stored)
shown_is S k = same_bool (shown_all S k) ((S (with_stored k false) || S (with_stored k true)) && not k.stored)
    (λ e. let x = out_image (λ h k. same_held (shown_of h) k) S k e in
    let is = same_is (shown_of x.held) k x.leads in
    both (S (with_stored k false) || S (with_stored k true)) _
    (from_either S k x.held.stored (subst (λ (h : Held). S (with_stored h x.held.stored) ≡ true) is x.has))
    (ap (λ (h : Held). not h.stored) (sym is)))
    (λ e. let plain = turned k.stored (right (S (with_stored k false) || S (with_stored k true)) _ e) in
    either (S (with_stored k false)) (S (with_stored k true)) (left (S (with_stored k false) || S (with_stored k true)) _ e)
    (λ s. in_image (λ h k. same_held (shown_of h) k) S (with_stored k false) k s (again k plain))
    (λ s. in_image (λ h k. same_held (shown_of h) k) S (with_stored k true) k s (again k plain)))

-- BITS
shifted : (n k p : ℕ) → bit_at (n / 2 ^ k) p ≡ bit_at n (k + p)
shifted n k p = ap (λ x. x % 2) (shr-shr n k p)

mask_is : (k : Held) → (bit_at 16383 (place_of k) == 1) ≡ not k.stored
mask_is k = each_is (λ k. bit_at 16383 (place_of k) == 1) (λ k. not k.stored) refl k

further : (p c : ℕ) → 14 + (p + (c + 0)) ≡ p + (c + 14)
further p c = omega arith

by_stored : (n : ℕ) (k : Held) (b : Bool) → k.stored ≡ b → (((bit_at n (place_of k) == 1) || (bit_at (n / 2 ^ 14) (place_of k) == 1)) && not k.stored) ≡ (((bit_at n (place_of (with_stored k false)) == 1) || (bit_at n (place_of (with_stored k true)) == 1)) && not k.stored)
by_stored n k true e = ap (λ (b : Bool). ((bit_at n (place_of k) == 1) || (bit_at (n / 2 ^ 14) (place_of k) == 1)) && not b) e
    ∙ none _ _ ∙ ap (λ (b : Bool). ((bit_at n (place_of (with_stored k false)) == 1) || (bit_at n (place_of (with_stored k true)) == 1)) && not b) (sym e)
  where
    none : (a b : Bool) → (a && false) ≡ (b && false)
    none true true = refl
    none true false = refl
    none false true = refl
    none false false = refl
by_stored n k false e = ap (λ (h : Held). ((bit_at n (place_of h) == 1) || (bit_at (n / 2 ^ 14) (place_of h) == 1)) && not k.stored) (λ i. record { copy = k.copy; cancelled = k.cancelled; stored = e i })
    ∙ ap (λ (x : ℕ). ((bit_at n (place_of (with_stored k false)) == 1) || (x == 1)) && not k.stored)
    (shifted n 14 (place_of (with_stored k false)) ∙ ap (bit_at n) (further (place_of_copy k.copy) (if k.cancelled then 7 else 0)))

pub shown_bits : (n : ℕ) (k : Held) → (bit_at (bit_and (bit_or n (n / 2 ^ 14)) 16383) (place_of k) == 1) ≡ shown_all (λ h. bit_at n (place_of h) == 1) k
shown_bits n k = and_bits (bit_or n (n / 2 ^ 14)) 16383 (place_of k) ∙ (λ i. or_bits n (n / 2 ^ 14) (place_of k) i && mask_is k i)
    ∙ by_stored n k k.stored refl ∙ sym (shown_is (λ h. bit_at n (place_of h) == 1) k)
