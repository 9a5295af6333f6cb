-- Sets of copies as bits, and what is found by trying each bit.
use Rattle.std.proofs.Common.{rules, arith, ◌≡◌, ◌≢◌, ℕ, zero, suc, ◌+◌, ◌*◌, ◌^◌, ◌%◌, ◌<◌, refl, sym, ap, subst, ◌∙◌, bit_or, w32}
use Rattle.std.specs.Int.{bit_at}
use Rattle.std.specs.Prelude.{Bool, true, false, ◌&&◌, ◌||◌, ◌==◌, if◌then◌else◌}
use Rattle.std.proofs.lemmas.Bool.{eqb-true}
use Rattle.std.proofs.lemmas.Nat.Bits.{bit_at_set_same, bit_at_set_other}
use Rattle.chi_observer.specs.Copies.{Copy}
use Rattle.chi_observer.specs.Copies.Copy.{Invalid, SharedClean, UniqueClean, UniqueEmpty, UniqueDirty, SharedDirty, Writing}
use Rattle.chi_copies.specs.Copies.{Held, Copies, alike, same_held, any_held, image}
use Rattle.chi_copies.specs.Sets.{place_of, place_of_copy, held_at, any_below}
use Rattle.chi_copies.specs.Worlds.{all_below}
use Rattle.chi_copies.proofs.Finite.{no, left, right, or_left, or_right, either, each_held, all_helds, in_held, out_held, in_image, out_image}
use Rattle.chi_copies.proofs.Put.{differ}

pub alike_is : (a b : Bool) → alike a b ≡ true → a ≡ b
alike_is true true h = refl
alike_is true false h = no h
alike_is false true h = no h
alike_is false false h = refl

pub same_bool : (a b : Bool) → (a ≡ true → b ≡ true) → (b ≡ true → a ≡ true) → a ≡ b
same_bool true b f g = sym (f refl)
same_bool false true f g = no (g refl)
same_bool false false f g = refl

-- each copy has its own bit
pub places : (h k : Held) → (place_of h == place_of k) ≡ same_held h k
places h k = alike_is _ _ (each_held (λ k. alike (place_of h == place_of k) (same_held h k)) (each_held (λ h. all_helds (λ k. alike (place_of h == place_of k) (same_held h k))) refl h) k)

low_copy : (s : Copy) → place_of_copy s < 7
low_copy Invalid = search (rules, arith)
low_copy SharedClean = search (rules, arith)
low_copy UniqueClean = search (rules, arith)
low_copy UniqueEmpty = search (rules, arith)
low_copy UniqueDirty = search (rules, arith)
low_copy SharedDirty = search (rules, arith)
low_copy Writing = search (rules, arith)

low_by : (n : ℕ) (c b : Bool) → n < 7 → n + ((if c then 7 else 0) + (if b then 14 else 0)) < 28
low_by n true true l = omega arith
low_by n true false l = omega arith
low_by n false true l = omega arith
low_by n false false l = omega arith

pub low : (h : Held) → place_of h < 28
low h = low_by (place_of_copy h.copy) h.cancelled h.stored (low_copy h.copy)

by_place : (n p q : ℕ) (b : Bool) → p < 32 → (p == q) ≡ b → (bit_at (bit_or n (1 * 2 ^ p % 2 ^ 32)) q == 1) ≡ ((bit_at n q == 1) || b)
by_place n p q true l e = ap (λ x. bit_at (bit_or n (1 * 2 ^ p % 2 ^ 32)) x == 1) (sym (eqb-true p q e)) ∙ ap (λ x. x == 1) (bit_at_set_same w32 n p l) ∙ sym (or_true (bit_at n q == 1))
  where
    or_true : (b : Bool) → (b || true) ≡ true
    or_true true = refl
    or_true false = refl
by_place n p q false l e = ap (λ x. x == 1) (bit_at_set_other w32 n p l q (λ h. differ p q e (sym h))) ∙ or_false (bit_at n q == 1)
  where
    or_false : (b : Bool) → b ≡ (b || false)
    or_false true = refl
    or_false false = refl

pub with_is : (n p : ℕ) (h k : Held) → p ≡ place_of h → (bit_at (bit_or n (1 * 2 ^ p % 4294967296)) (place_of k) == 1) ≡ ((bit_at n (place_of k) == 1) || same_held h k)
with_is n p h k e = let l : place_of h < 28 = low h in by_place n p (place_of k) (same_held h k) (omega arith) (ap (λ x. x == place_of k) e ∙ places h k)

-- one more
pub suc_is : (k : ℕ) → suc k ≡ k + 1
suc_is k = search (rules, arith)

swap : (a b : Bool) → (a || b) ≡ (b || a)
swap true true = refl
swap true false = refl
swap false true = refl
swap false false = refl

pub next_any : (k : ℕ) (f : ℕ → Bool) (a c : Bool) → a ≡ any_below k f → c ≡ (a || f k) → c ≡ any_below (k + 1) f
next_any k f a c h e = e ∙ ap (λ a. a || f k) h ∙ swap (any_below k f) (f k) ∙ ap (λ (n : ℕ). any_below n f) (suc_is k)

any_step : (k : ℕ) (f : ℕ → Bool) (p : ℕ) (b : Bool) → (p == k) ≡ b → p < suc k → f p ≡ true → (p < k → any_below k f ≡ true) → any_below (suc k) f ≡ true
any_step k f p true e l h rest = or_left (f k) _ (subst (λ x. f x ≡ true) (eqb-true p k e) h)
any_step k f p false e l h rest = let d : p ≢ k = differ p k e in or_right (f k) _ (rest (search (rules, arith)))

pub any_in : (k : ℕ) (f : ℕ → Bool) (p : ℕ) → p < k → f p ≡ true → any_below k f ≡ true
any_in zero f p l h = absurd (search (rules, arith))
any_in (suc k) f p l h = any_step k f p (p == k) refl l h (λ m. any_in k f p m h)

any_out : (k : ℕ) (f : ℕ → Bool) → any_below k f ≡ true → (p : ℕ) × (f p ≡ true)
any_out zero f h = no h
any_out (suc k) f h = either (f k) (any_below k f) h (λ e. (k, e)) (λ e. any_out k f e)

-- each copy is that of its bit
back_by : (s : Copy) (c b : Bool) → held_at (place_of (record { copy = s; cancelled = c; stored = b })) ≡ record { copy = s; cancelled = c; stored = b }
back_by Invalid true true = refl
back_by Invalid true false = refl
back_by Invalid false true = refl
back_by Invalid false false = refl
back_by SharedClean true true = refl
back_by SharedClean true false = refl
back_by SharedClean false true = refl
back_by SharedClean false false = refl
back_by UniqueClean true true = refl
back_by UniqueClean true false = refl
back_by UniqueClean false true = refl
back_by UniqueClean false false = refl
back_by UniqueEmpty true true = refl
back_by UniqueEmpty true false = refl
back_by UniqueEmpty false true = refl
back_by UniqueEmpty false false = refl
back_by UniqueDirty true true = refl
back_by UniqueDirty true false = refl
back_by UniqueDirty false true = refl
back_by UniqueDirty false false = refl
back_by SharedDirty true true = refl
back_by SharedDirty true false = refl
back_by SharedDirty false true = refl
back_by SharedDirty false false = refl
back_by Writing true true = refl
back_by Writing true false = refl
back_by Writing false true = refl
back_by Writing false false = refl

pub back : (h : Held) → held_at (place_of h) ≡ h
back h = back_by h.copy h.cancelled h.stored

pub any_is : (f : Copies) → any_below 28 (λ p. f (held_at p)) ≡ any_held f
any_is f = same_bool (any_below 28 (λ p. f (held_at p))) (any_held f)
    (λ h. let x = any_out 28 (λ p. f (held_at p)) h in in_held f (held_at x.0) x.1)
    (λ h. let x = out_held f h in any_in 28 (λ p. f (held_at p)) (place_of x.0) (low x.0) (subst (λ k. f k ≡ true) (sym (back x.0)) x.1))

pub any_all : (n : ℕ) (f : Copies) (a : Bool) → n ≡ 28 → a ≡ any_below n (λ p. f (held_at p)) → a ≡ any_held f
any_all n f a e h = h ∙ ap (λ k. any_below k (λ p. f (held_at p))) e ∙ any_is f

both_swap : (a b : Bool) → (a && b) ≡ (b && a)
both_swap true true = refl
both_swap true false = refl
both_swap false true = refl
both_swap false false = refl

pub next_all : (k : ℕ) (f : ℕ → Bool) (a b : Bool) → a ≡ all_below k f → b ≡ f k → (a && b) ≡ all_below (k + 1) f
next_all k f a b h e = (λ i. h i && e i) ∙ both_swap (all_below k f) (f k) ∙ ap (λ (n : ℕ). all_below n f) (suc_is k)

each_step : (k : ℕ) (f : ℕ → Bool) (m : ℕ) (b : Bool) → (m == k) ≡ b → f k ≡ true → (m < k → f m ≡ true) → m < suc k → f m ≡ true
each_step k f m true e here rest l = subst (λ x. f x ≡ true) (sym (eqb-true m k e)) here
each_step k f m false e here rest l = let d : m ≢ k = differ m k e in rest (search (rules, arith))

pub each_below : (k : ℕ) (f : ℕ → Bool) → all_below k f ≡ true → (m : ℕ) → m < k → f m ≡ true
each_below zero f h m l = absurd (search (rules, arith))
each_below (suc k) f h m l = each_step k f m (m == k) refl (left (f k) (all_below k f) h) (each_below k f (right (f k) (all_below k f) h) m) l

-- two copies that are one
pub same_itself : (h : Held) → same_held h h ≡ true
same_itself h = each_held (λ h. same_held h h) refl h

pub same_is : (h k : Held) → same_held h k ≡ true → h ≡ k
same_is h k e = sym (back h) ∙ ap held_at (eqb-true (place_of h) (place_of k) (places h k ∙ e)) ∙ back k

pub stay_is : (S : Copies) (k : Held) → image (λ h k. same_held h k) S k ≡ S k
stay_is S k = same_bool (image (λ h k. same_held h k) S k) (S k)
    (λ e. let x = out_image (λ h k. same_held h k) S k e in subst (λ h. S h ≡ true) (same_is x.held k x.leads) x.has)
    (λ e. in_image (λ h k. same_held h k) S k k e (same_itself k))
