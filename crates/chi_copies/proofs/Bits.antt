-- A set's bits: what two sets share, the first copy, and the rest.
use Rattle.std.proofs.Common.{rules, arith, ◌≡◌, ◌≢◌, ℕ, zero, suc, ◌*◌, ◌^◌, ◌%◌, ◌<◌, ◌≤◌, refl, sym, ap, subst, ◌∙◌, bit_or, w32, min, max}
use Rattle.std.specs.Int.{bit_at, bit_not, trailing_zeros}
use Rattle.std.proofs.Math.Path.{fun_ext}
use Rattle.std.specs.Prelude.{Bool, true, false, ◌&&◌, ◌||◌, ◌==◌, not, nat_lt, bit_and}
use Rattle.std.proofs.lemmas.Bool.{eqb-true}
use Rattle.std.proofs.lemmas.Nat.{and_le_l, and_le_r, and_mask}
use Rattle.std.proofs.lemmas.Nat.Bits.{bit_at-lt, bit_at-zero, bit_at_and, bit_at_or, bit_at_ones, bit_at_ones_above, bit_at-trailing_zeros, bit_at_clear_same, bit_at_clear_other}
use Rattle.chi_observer.specs.declared.flits.Due.{Due}
use Rattle.chi_observer.specs.declared.flits.Stores.{Stores}
use Rattle.chi_observer.specs.Copies.{holds_data, is_clean, is_unique, same}
use Rattle.chi_observer.specs.Copies.Copy.{Invalid}
use Rattle.chi_copies.specs.declared.steps.Step.TheVariants.{Apart}
use Rattle.chi_copies.specs.Copies.{Held, Copies, alike, all_beside, any_held, beside, image, is_newer, same_held, shown_of}
use Rattle.chi_copies.specs.Rules.{dropped, freed, may_be_free, slips, stored_to}
use Rattle.chi_observer.specs.Rules.{are_hidden}
use Rattle.chi_copies.specs.Observed.{any_of, is_beside, shown_all}
use Rattle.chi_copies.specs.Sets.{place_of, held_at}
use Rattle.chi_copies.specs.Lines.{apart_by, leads_by}
use Rattle.chi_copies.proofs.Finite.{no, left, right, both, or_left, or_right, either, turned, flip, by_false, all_helds, each_held, in_held, out_held, in_image, out_image}
use Rattle.chi_copies.proofs.Put.{differ}
use Rattle.chi_copies.proofs.Sets.{alike_is, same_bool, places, low, each_below, same_is, same_itself, stay_is}

-- what each copy shows of two sets is of both
pub each_is : (S T : Copies) → all_helds (λ h. alike (S h) (T h)) ≡ true → (h : Held) → S h ≡ T h
each_is S T e h = alike_is _ _ (each_held (λ h. alike (S h) (T h)) e h)

pub unique_empty : (h : Held) → (bit_at 16909320 (place_of h) == 1) ≡ (is_unique h.copy && not (holds_data h.copy))
unique_empty h = each_is (λ h. bit_at 16909320 (place_of h) == 1) (λ h. is_unique h.copy && not (holds_data h.copy)) refl h

pub unique_newer : (h : Held) → (bit_at 42270720 (place_of h) == 1) ≡ (is_unique h.copy && is_newer h)
unique_newer h = each_is (λ h. bit_at 42270720 (place_of h) == 1) (λ h. is_unique h.copy && is_newer h) refl h

pub left_is : (h : Held) → (bit_at 266321790 (place_of h) == 1) ≡ not (same h.copy Invalid)
left_is h = each_is (λ h. bit_at 266321790 (place_of h) == 1) (λ h. not (same h.copy Invalid)) refl h

-- TWO SETS
max_bit : (x y : ℕ) → x < 2 → y < 2 → (max x y == 1) ≡ ((x == 1) || (y == 1))
max_bit zero zero l m = refl
max_bit zero (suc zero) l m = refl
max_bit (suc zero) zero l m = refl
max_bit (suc zero) (suc zero) l m = refl
max_bit (suc (suc x)) y l m = absurd (omega arith)
max_bit x (suc (suc y)) l m = absurd (omega arith)

min_bit : (x y : ℕ) → x < 2 → y < 2 → (min x y == 1) ≡ ((x == 1) && (y == 1))
min_bit zero zero l m = refl
min_bit zero (suc zero) l m = refl
min_bit (suc zero) zero l m = refl
min_bit (suc zero) (suc zero) l m = refl
min_bit (suc (suc x)) y l m = absurd (omega arith)
min_bit x (suc (suc y)) l m = absurd (omega arith)

pub or_bits : (a b p : ℕ) → (bit_at (bit_or a b) p == 1) ≡ ((bit_at a p == 1) || (bit_at b p == 1))
or_bits a b p = ap (λ x. x == 1) (bit_at_or a b p) ∙ max_bit (bit_at a p) (bit_at b p) (bit_at-lt a p) (bit_at-lt b p)

pub and_bits : (a b p : ℕ) → (bit_at (bit_and a b) p == 1) ≡ ((bit_at a p == 1) && (bit_at b p == 1))
and_bits a b p = ap (λ x. x == 1) (bit_at_and a b p) ∙ min_bit (bit_at a p) (bit_at b p) (bit_at-lt a p) (bit_at-lt b p)

-- THE BITS OF COPIES
and_true : (b : Bool) → (b && true) ≡ b
and_true true = refl
and_true false = refl

pub known_low : (n : ℕ) → bit_and n 268435455 < 268435456
known_low n = omega (arith, and_le_r n 268435455)

pub known_same : (n : ℕ) (h : Held) → (bit_at (bit_and n 268435455) (place_of h) == 1) ≡ (bit_at n (place_of h) == 1)
known_same n h = and_bits n 268435455 (place_of h) ∙ ap (λ x. (bit_at n (place_of h) == 1) && (x == 1)) (bit_at_ones 28 (place_of h) (low h)) ∙ and_true (bit_at n (place_of h) == 1)

-- each bit is that of its copy
pub forth : (p : ℕ) → p < 28 → place_of (held_at p) ≡ p
forth p l = eqb-true (place_of (held_at p)) p (each_below 28 (λ p. place_of (held_at p) == p) refl p l)

-- THE FIRST
module _ (n : ℕ) (small : n < 268435456) where
  above : (p : ℕ) → 28 ≤ p → bit_at n p ≡ 1 → ⊥
  above p l e =
      let masked : bit_and n 268435455 ≡ n = search (rules, arith, and_mask n 28) in
      let none : bit_at (bit_and n 268435455) p ≡ 0 = omega (arith, bit_at_and n 268435455 p, bit_at_ones_above 28 p l) in
      let clear : bit_at n p ≡ 0 = subst (λ (m : ℕ). bit_at m p ≡ 0) masked none in
      omega (arith, clear, e)

  low_by : (p : ℕ) (b : Bool) → nat_lt p 28 ≡ b → bit_at n p ≡ 1 → p < 28
  low_by p true h e = search (rules, arith)
  low_by p false h e = let l : 28 ≤ p = search (rules, arith) in absurd (above p l e)

  module _ (some : 0 < n) where
    abbrev at : ℕ
    at = trailing_zeros w32 n

    set_at : bit_at n at ≡ 1
    set_at = (bit_at-trailing_zeros w32 n some (omega arith)).1

    pub first_low : at < 28
    first_low = low_by at (nat_lt at 28) refl set_at

    pub first_is : (bit_at n (place_of (held_at at)) == 1) ≡ true
    first_is = ap (λ (p : ℕ). bit_at n p == 1) (forth at first_low) ∙ ap (λ (x : ℕ). x == 1) set_at

  pub some_bit : (f : Copies) → ((h : Held) → (bit_at n (place_of h) == 1) ≡ f h) → not (n == 0) ≡ any_held f
  some_bit f each = same_bool (not (n == 0)) (any_held f)
      (λ e. let some : 0 < n = search (rules, arith) in in_held f (held_at (at some)) (sym (each (held_at (at some))) ∙ first_is some))
      (λ e. let x = out_held f e in flip (n == 0) (by_false (n == 0) (λ z. sym (ap (λ (x : ℕ). x == 1) (bit_at-zero (place_of x.0))) ∙ ap (λ (m : ℕ). bit_at m (place_of x.0) == 1) (sym (eqb-true n 0 z)) ∙ each x.0 ∙ x.1)))

pub meets_is : (a b m : ℕ) → m ≡ bit_and (bit_and a b) 268435455 → not (m == 0) ≡ any_held (λ h. (bit_at a (place_of h) == 1) && (bit_at b (place_of h) == 1))
meets_is a b m e = subst (λ (m : ℕ). not (m == 0) ≡ any_held (λ h. (bit_at a (place_of h) == 1) && (bit_at b (place_of h) == 1))) (sym e)
    (some_bit (bit_and (bit_and a b) 268435455) (known_low (bit_and a b)) (λ h. (bit_at a (place_of h) == 1) && (bit_at b (place_of h) == 1)) (λ h. known_same (bit_and a b) h ∙ and_bits a b (place_of h)))

-- THE REST
abbrev cleared : ℕ → ℕ → ℕ
cleared n p = bit_and n (bit_not w32 (1 * 2 ^ p % 2 ^ 32))

pub set_there : (n p : ℕ) → p < 28 → (bit_at n (place_of (held_at p)) == 1) ≡ true → bit_at n p ≡ 1
set_there n p l e = eqb-true (bit_at n p) 1 (ap (λ (q : ℕ). bit_at n q == 1) (sym (forth p l)) ∙ e)

fewer_by : (n m : ℕ) (b : Bool) → (m == n) ≡ b → m ≤ n → (m ≡ n → ⊥) → m < n
fewer_by n m true e l d = absurd (d (eqb-true m n e))
fewer_by n m false e l d = let apart : m ≢ n = differ m n e in omega (arith, l, apart)

pub fewer : (n p : ℕ) → p < 28 → (bit_at n (place_of (held_at p)) == 1) ≡ true → cleared n p < n
fewer n p l e = fewer_by n (cleared n p) (cleared n p == n) refl (and_le_l n (bit_not w32 (1 * 2 ^ p % 2 ^ 32)))
    (λ same. let gone : bit_at (cleared n p) p ≡ 0 = bit_at_clear_same w32 n p (omega arith) in
    let there : bit_at n p ≡ 1 = set_there n p l e in
    let back : bit_at n p ≡ 0 = subst (λ (m : ℕ). bit_at m p ≡ 0) same gone in omega (arith, there, back))

and_false : (b : Bool) → false ≡ (b && false)
and_false true = refl
and_false false = refl

without_by : (n p q : ℕ) (b : Bool) → p < 28 → q < 28 → (p == q) ≡ b → (bit_at (cleared n p) q == 1) ≡ ((bit_at n q == 1) && not b)
without_by n p q true l k e = ap (λ (q : ℕ). bit_at (cleared n p) q == 1) (sym (eqb-true p q e)) ∙ ap (λ (x : ℕ). x == 1) (bit_at_clear_same w32 n p (omega arith)) ∙ and_false (bit_at n q == 1)
without_by n p q false l k e = ap (λ (x : ℕ). x == 1) (bit_at_clear_other w32 n p (omega arith) q (omega arith) (λ h. differ p q e (sym h))) ∙ sym (and_true (bit_at n q == 1))

pub without_is : (n p : ℕ) → p < 28 → (h : Held) → (bit_at (cleared n p) (place_of h) == 1) ≡ ((bit_at n (place_of h) == 1) && not (same_held (held_at p) h))
without_is n p l h = without_by n p (place_of h) (same_held (held_at p) h) l (low h) (ap (λ (q : ℕ). q == place_of h) (sym (forth p l)) ∙ places (held_at p) h)

-- ONE AFTER THE OTHER
module _ (R : Held → Copies) (S T : Copies) (p : Held) (has : S p ≡ true) (rest : (h : Held) → T h ≡ (S h && not (same_held p h))) (k : Held) where
  from_rest : image R T k ≡ true → image R S k ≡ true
  from_rest e = let x = out_image R T k e in in_image R S x.held k (left (S x.held) _ (sym (rest x.held) ∙ x.has)) x.leads

  to_rest : (h : Held) → S h ≡ true → R h k ≡ true → (b : Bool) → same_held p h ≡ b → (R p k || image R T k) ≡ true
  to_rest h s r true e = or_left (R p k) _ (subst (λ h. R h k ≡ true) (sym (same_is p h e)) r)
  to_rest h s r false e = or_right (R p k) _ (in_image R T h k (rest h ∙ both (S h) _ s (flip (same_held p h) e)) r)

  pub follow_one : (R p k || image R T k) ≡ image R S k
  follow_one = same_bool (R p k || image R T k) (image R S k)
      (λ e. either (R p k) (image R T k) e (in_image R S p k has) from_rest)
      (λ e. let x = out_image R S k e in to_rest x.held x.has x.leads (same_held p x.held) refl)

or_assoc : (a b c : Bool) → ((a || b) || c) ≡ (a || (b || c))
or_assoc true b c = refl
or_assoc false b c = refl

pub follow_next : (R : Held → Copies) (S T : Copies) (p k : Held) (before after all : Bool) → S p ≡ true → ((h : Held) → T h ≡ (S h && not (same_held p h))) → after ≡ (before || R p k) → (before || image R S k) ≡ all → (after || image R T k) ≡ all
follow_next R S T p k before after all has rest e h = ap (λ a. a || image R T k) e ∙ or_assoc before (R p k) (image R T k) ∙ ap (λ x. before || x) (follow_one R S T p has rest k) ∙ h

or_false : (b : Bool) → (b || false) ≡ b
or_false true = refl
or_false false = refl

none_of : (R : Held → Copies) (n : ℕ) (k : Held) → n ≡ 0 → image R (λ h. bit_at n (place_of h) == 1) k ≡ false
none_of R n k e = by_false (image R (λ h. bit_at n (place_of h) == 1) k) (λ h. let x = out_image R (λ h. bit_at n (place_of h) == 1) k h in
    sym (ap (λ (x : ℕ). x == 1) (bit_at-zero (place_of x.held))) ∙ ap (λ (m : ℕ). bit_at m (place_of x.held) == 1) (sym e) ∙ x.has)

pub follow_last : (R : Held → Copies) (n : ℕ) (k : Held) (a all : Bool) → n ≡ 0 → (a || image R (λ h. bit_at n (place_of h) == 1) k) ≡ all → a ≡ all
follow_last R n k a all e h = sym (ap (λ x. a || x) (none_of R n k e) ∙ or_false a) ∙ h

pub follow_first : (R : Held → Copies) (S T : Copies) (k : Held) → ((h : Held) → T h ≡ S h) → (false || image R T k) ≡ image R S k
follow_first R S T k e = ap (λ (T : Copies). image R T k) (fun_ext e)

-- STEPS THAT LEAVE A SET AS IT IS
shown_stays : (h : Held) → h.stored ≡ false → shown_of h ≡ h
shown_stays h e = λ i. record { copy = h.copy; cancelled = h.cancelled; stored = sym e i }

pub shown_same : (S : Copies) (k : Held) → any_held (λ h. S h && h.stored) ≡ false → S k ≡ shown_all S k
shown_same S k none = same_bool (S k) (shown_all S k)
    (λ e. in_image (λ h k. same_held (shown_of h) k) S k k e (subst (λ x. same_held x k ≡ true) (sym (shown_stays k (fresh k e))) (same_itself k)))
    (λ e. let x = out_image (λ h k. same_held (shown_of h) k) S k e in subst (λ h. S h ≡ true) (sym (shown_stays x.held (fresh x.held x.has)) ∙ same_is (shown_of x.held) k x.leads) x.has)
  where
    fresh : (h : Held) → S h ≡ true → h.stored ≡ false
    fresh h e = by_false h.stored (λ s. sym none ∙ in_held (λ h. S h && h.stored) h (both (S h) h.stored e s))

hidden_by : (a b c : Bool) → b ≡ false → (a || (b && c)) ≡ a
hidden_by a true c h = no (sym h)
hidden_by a false c h = or_false a

pub hidden_same : (z : Stores) (d : Due) (S : Copies) (k : Held) → may_be_free d ≡ false → S k ≡ image (slips z d) S k
hidden_same z d S k h = sym (stay_is S k) ∙ sym (ap (λ (R : Held → Copies). image R S k) (fun_ext (λ h'. fun_ext (λ k'. hidden_by (same_held h' k') (may_be_free d) (same_held (freed d h') k' || ((are_hidden z && (is_unique h'.copy && same_held (stored_to (freed d h')) k')) || (is_clean h'.copy && same_held (dropped (freed d h')) k'))) h))))

-- WHAT ANOTHER AGENT MAY NOT HAVE
module _ (S T : Copies) (alone : Bool) where
  abbrev apart : Copies
  apart = apart_by S alone

  clash : (h k : Held) → S h ≡ true → T k ≡ true → not (beside h k) ≡ true → any_of T apart ≡ true
  clash h k s t b = in_held (λ k. T k && apart k) k (both (T k) (apart k) t (or_left _ _ (in_image (leads_by Apart) S h k s b)))

  left_there : (k : Held) → alone ≡ true → T k ≡ true → not (same k.copy Invalid) ≡ true → any_of T apart ≡ true
  left_there k a t l = in_held (λ k. T k && apart k) k (both (T k) (apart k) t (or_right (image (leads_by Apart) S k) _ (both alone _ a l)))

  module _ (none : any_of T apart ≡ false) where
    each_goes : all_beside S T ≡ true
    each_goes = flip _ (by_false _ (λ e. let x = out_held (λ h. S h && any_held (λ k. T k && not (beside h k))) e in
        let y = out_held (λ k. T k && not (beside x.0 k)) (right (S x.0) _ x.1) in
        sym none ∙ clash x.0 y.0 (left (S x.0) _ x.1) (left (T y.0) _ y.1) (right (T y.0) _ y.1)))

    none_left : (b : Bool) → alone ≡ b → (not b || not (any_of T (λ k. not (same k.copy Invalid)))) ≡ true
    none_left false a = refl
    none_left true a = flip _ (by_false _ (λ e. let x = out_held (λ k. T k && not (same k.copy Invalid)) e in
        sym none ∙ left_there x.0 a (left (T x.0) _ x.1) (right (T x.0) _ x.1)))

  meets_none : is_beside S alone T ≡ true → (k : Held) → T k ≡ true → apart k ≡ true → false ≡ true
  meets_none e k t a = either (image (leads_by Apart) S k) _ a
      (λ i. let x = out_image (leads_by Apart) S k i in
      sym (turned _ (left (all_beside S T) _ e)) ∙ in_held (λ h. S h && any_held (λ k. T k && not (beside h k))) x.held (both (S x.held) _ x.has (in_held (λ k. T k && not (beside x.held k)) k (both (T k) _ t x.leads))))
      (λ l. either (not alone) _ (right (all_beside S T) _ e)
      (λ n. sym (turned alone n) ∙ left alone _ l)
      (λ n. sym (turned _ n) ∙ in_held (λ k. T k && not (same k.copy Invalid)) k (both (T k) _ t (right alone _ l))))

  pub beside_is : not (any_of T apart) ≡ is_beside S alone T
  beside_is = same_bool (not (any_of T apart)) (is_beside S alone T)
      (λ e. let n = turned (any_of T apart) e in both (all_beside S T) _ (each_goes n) (none_left n alone refl))
      (λ e. flip (any_of T apart) (by_false (any_of T apart) (λ m. let x = out_held (λ k. T k && apart k) m in meets_none e x.0 (left (T x.0) _ x.1) (right (T x.0) _ x.1))))

pub goes_beside : (n agent : ℕ) (S T : Copies) (alone : Bool) (A : Copies) → ((h : Held) → A h ≡ apart_by S alone h) → (n == agent || not (any_of T A)) ≡ (n == agent || is_beside S alone T)
goes_beside n agent S T alone A e = ap (λ (A : Copies). n == agent || not (any_of T A)) (fun_ext e) ∙ ap (λ (x : Bool). n == agent || x) (beside_is S T alone)
