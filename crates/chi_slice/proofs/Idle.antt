-- The lowest free slot is the first behind those in use.
use Rattle.std.proofs.Common.{◌≡◌, ℕ, ◌+◌, ◌<◌, ◌≤◌, ◌==◌, Bool, true, false, get_or, refl, subst, sym, ap, ◌∙◌, arith}
use Rattle.std.specs.List.{range_with_len}
use Rattle.std.proofs.lemmas.List.FromFn.{get_or-range_with_len}
use Rattle.std.proofs.lemmas.List.Sums.{prefix_len_is}
use Rattle.chi_flit.specs.Numbers.{slot_at}
use Rattle.chi_slice.specs.Idle.{lowest_idle}
use Rattle.chi_slice.specs.Slice.{SliceState, uses}

number_at : (k : ℕ) → k < 8 → get_or (range_with_len 0 8) k 0 ≡ k
number_at k low = let at : get_or (range_with_len 0 8) k 0 ≡ 0 + k = get_or-range_with_len 0 8 k 0 low in omega (arith, at)

pub first_free : (s : SliceState) (n number : ℕ) → number ≤ 8 → ((k : ℕ) → k < number → uses s n (slot_at k) ≡ true) → (number < 8 → uses s n (slot_at number) ≡ false) → slot_at number ≡ lowest_idle s n
first_free s n number low used free =
    ap slot_at (sym (prefix_len_is (λ k. uses s n (slot_at k)) (range_with_len 0 8) number 0 low
    (λ k below. ap (λ (i : ℕ). uses s n (slot_at i)) (number_at k (omega (arith, below, low))) ∙ used k below)
    (λ below. ap (λ (i : ℕ). uses s n (slot_at i)) (number_at number below) ∙ free below)))

-- one slot more
pub one_more : (s : SliceState) (n number : ℕ) → ((k : ℕ) → k < number → uses s n (slot_at k) ≡ true) → uses s n (slot_at number) ≡ true → (k : ℕ) → k < number + 1 → uses s n (slot_at k) ≡ true
one_more s n number used last = λ k low. go k low (k == number) refl
  where
    go : (k : ℕ) → k < number + 1 → (b : Bool) → (k == number) ≡ b → uses s n (slot_at k) ≡ true
    go k low true same = let e : k ≡ number = grind (arith, same) in subst (λ (i : ℕ). uses s n (slot_at i) ≡ true) (sym e) last
    go k low false apart = used k (grind (arith, low, apart))
