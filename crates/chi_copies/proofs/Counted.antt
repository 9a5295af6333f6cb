-- What counts of a set of copies: of each, where it isn't sure; and of one alone.
use Rattle.std.proofs.Common.{arith, ◌≡◌, ℕ, zero, suc, ◌+◌, ◌-◌, ◌<◌, refl, sym, ap, subst, ◌∙◌, w32}
use Rattle.std.specs.Int.{bit_at}
use Rattle.std.proofs.Math.Path.{fun_ext}
use Rattle.std.specs.Prelude.{Bool, true, false, ◌&&◌, ◌||◌, ◌==◌, not}
use Rattle.std.proofs.lemmas.Nat.Bits.{bit_at-lt, bit_at-zero, bit_at_not}
use Rattle.chi_copies.specs.Copies.{Held, Copies, any_held, image, same_held}
use Rattle.chi_copies.specs.Observed.{any_of}
use Rattle.chi_copies.specs.Sets.{place_of}
use Rattle.chi_copies.specs.Worlds.{all_below}
use Rattle.chi_copies.specs.Begun.{counts, each_of, is_one}
use Rattle.chi_copies.proofs.Finite.{no, left, right, both, or_left, or_right, either, turned, flip, by_false, by_truth, in_held, out_held}
use Rattle.chi_copies.proofs.Bits.{some_bit}
use Rattle.chi_copies.proofs.Sets.{low, same_bool, same_is, suc_is}

-- THE OTHERS
one_less : (x : ℕ) → x < 2 → (1 - x == 1) ≡ not (x == 1)
one_less zero l = refl
one_less (suc zero) l = refl
one_less (suc (suc x)) l = absurd (omega arith)

pub others_are : (n : ℕ) (h : Held) (b : Bool) → n < 268435456 → (bit_at n (place_of h) == 1) ≡ b → (bit_at (4294967295 - n) (place_of h) == 1) ≡ not b
others_are n h b l e =
    let p : place_of h < 28 = low h in
    ap (λ (x : ℕ). x == 1) (bit_at_not w32 n (place_of h) (omega arith) (omega arith)) ∙ one_less (bit_at n (place_of h)) (bit_at-lt n (place_of h)) ∙ ap not e

-- EACH OF THEM
pub each_so : (S f : Held → Bool) → each_of S f ≡ true → (k : Held) → S k ≡ true → f k ≡ true
each_so S f e k s = by_truth (f k) (λ h. h) (λ h. no (sym (turned (any_of S (λ h. not (f h))) e) ∙ in_held (λ h. S h && not (f h)) k (both (S k) (not (f k)) s (flip (f k) h))))

not_not : (b : Bool) → not (not b) ≡ b
not_not true = refl
not_not false = refl

-- ONE ALONE
pub none_is_one : (n : ℕ) (S : Copies) → n ≡ 0 → ((h : Held) → (bit_at n (place_of h) == 1) ≡ S h) → false ≡ is_one S
none_is_one n S z each = sym (by_false (is_one S) (λ e. let x = out_held (λ h. S h && each_of S (λ k. same_held h k)) e in
    sym (ap (λ (x : ℕ). x == 1) (bit_at-zero (place_of x.0))) ∙ ap (λ (m : ℕ). bit_at m (place_of x.0) == 1) (sym z) ∙ each x.0 ∙ left (S x.0) _ x.1))

alone_is_one : (S : Copies) (p : Held) → S p ≡ true → each_of S (λ k. same_held p k) ≡ is_one S
alone_is_one S p has = same_bool (each_of S (λ k. same_held p k)) (is_one S)
    (λ e. in_held (λ h. S h && each_of S (λ k. same_held h k)) p (both (S p) _ has e))
    (λ e. let x = out_held (λ h. S h && each_of S (λ k. same_held h k)) e in
    let alone = right (S x.0) _ x.1 in
    subst (λ h. each_of S (λ k. same_held h k) ≡ true) (same_is x.0 p (each_so S (λ k. same_held x.0 k) alone p has)) alone)

pub first_is_one : (n : ℕ) (S T : Copies) (p : Held) → n < 268435456 → ((h : Held) → T h ≡ S h) → T p ≡ true → ((h : Held) → (bit_at n (place_of h) == 1) ≡ (T h && not (same_held p h))) → (n == 0) ≡ is_one S
first_is_one n S T p l same has rest = sym (not_not (n == 0))
    ∙ ap not (some_bit n l (λ h. S h && not (same_held p h)) (λ h. rest h ∙ ap (λ (b : Bool). b && not (same_held p h)) (same h)))
    ∙ alone_is_one S p (sym (same p) ∙ has)

-- WHAT COUNTS
pub counts_by : (sure : Bool) (S A B : Copies) (b : Bool) → sure ≡ false → b ≡ any_of S B → ((h : Held) → B h ≡ not (A h)) → not b ≡ counts sure S A
counts_by true S A B b s e each = no (sym s)
counts_by false S A B b s e each = ap not (e ∙ ap (any_of S) (fun_ext each))

pub counts_of : (sure : Bool) (S A B : Copies) (b : Bool) → b ≡ counts sure S B → ((h : Held) → B h ≡ A h) → b ≡ counts sure S A
counts_of sure S A B b e each = e ∙ ap (counts sure S) (fun_ext each)

-- TWO PARTS OF A SET
pub any_either : (f g : Held → Bool) → (any_held f || any_held g) ≡ any_held (λ h. f h || g h)
any_either f g = same_bool (any_held f || any_held g) (any_held (λ h. f h || g h))
    (λ e. either (any_held f) (any_held g) e
    (λ a. let x = out_held f a in in_held (λ h. f h || g h) x.0 (or_left (f x.0) (g x.0) x.1))
    (λ b. let x = out_held g b in in_held (λ h. f h || g h) x.0 (or_right (f x.0) (g x.0) x.1)))
    (λ e. let x = out_held (λ h. f h || g h) e in either (f x.0) (g x.0) x.1
    (λ a. or_left (any_held f) (any_held g) (in_held f x.0 a))
    (λ b. or_right (any_held f) (any_held g) (in_held g x.0 b)))

part_by : (s p : Bool) (x y z : Bool) → (p ≡ true → x ≡ z) → (p ≡ false → y ≡ z) → (((s && p) && x) || ((s && not p) && y)) ≡ (s && z)
part_by true true true y z a b = a refl
part_by true true false y z a b = a refl
part_by true false x y z a b = b refl
part_by false p x y z a b = refl

-- what each copy of a set leads to, where those that are so go one way and the others another
pub image_parts : (R X Y : Held → Copies) (S P : Copies) (k : Held) → ((h : Held) → P h ≡ true → X h k ≡ R h k) → ((h : Held) → P h ≡ false → Y h k ≡ R h k) → (image X (λ h. S h && P h) k || image Y (λ h. S h && not (P h)) k) ≡ image R S k
image_parts R X Y S P k a b = any_either (λ h. (S h && P h) && X h k) (λ h. (S h && not (P h)) && Y h k)
    ∙ ap any_held (fun_ext (λ h. part_by (S h) (P h) (X h k) (Y h k) (R h k) (a h) (b h)))

-- SOME AGENT, of those below
not_both : (a b : Bool) → (not a || not b) ≡ not (b && a)
not_both true true = refl
not_both true false = refl
not_both false true = refl
not_both false false = refl

pub next_some : (k : ℕ) (f : ℕ → Bool) (x y : Bool) → x ≡ not (all_below k f) → y ≡ not (f k) → (x || y) ≡ not (all_below (k + 1) f)
next_some k f x y h e = (λ i. h i || e i) ∙ not_both (all_below k f) (f k) ∙ ap (λ (n : ℕ). not (all_below n f)) (suc_is k)
