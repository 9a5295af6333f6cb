-- Sums when one term moves, and counts by type when one grows.
use Rattle.std.proofs.Common.{◌≡◌, ◌≢◌, ℕ, zero, suc, ◌+◌, ◌<◌, ◌≤◌, List, [], ◌∷◌, ◌++◌, set, slice_index, refl, sym, ap, ◌∙◌, arith}
use mathlib.Core.Option.{some, some-injective, some-ne-none}
use mathlib.Core.Logic.{dite}
use native.Mathlib.Decide.{ℕ_discrete}
use lib.ListN.{get_elem?}
use Rattle.chi_tracker.specs.declared.view.SeatView.{SeatView}
use Rattle.chi_tracker.specs.declared.shape.Shape.{Shape}
use Rattle.chi_tracker.specs.Shape.{low, size, count_of}
use Rattle.chi_tracker.specs.Sums.{below, total, one_more}
use Rattle.chi_tracker.specs.Views.{PortView}
use Rattle.chi_tracker.specs.Rule.{weigh}
use Rattle.chi_tracker.specs.Steps.{one}

pub total-set : {A : Type 0} (f : A → ℕ) (l : List A) (i : ℕ) (a b : A) → get_elem? l i ≡ some a → total f (set l i b) + f a ≡ total f l + f b
total-set f [] i a b e = absurd (some-ne-none a (sym e))
total-set f (x ∷ xs) zero a b e = let h : f x ≡ f a = ap f (some-injective x a e) in omega arith
total-set f (x ∷ xs) (suc i) a b e = omega (arith, total-set f xs i a b e)

pub total-append : {A : Type 0} (f : A → ℕ) (xs ys : List A) → total f (xs ++ ys) ≡ total f xs + total f ys
total-append f [] ys = omega arith
total-append f (x ∷ xs) ys = omega (arith, total-append f xs ys)

pub total-term : {A : Type 0} (f : A → ℕ) (l : List A) (i : ℕ) (a : A) → get_elem? l i ≡ some a → f a ≤ total f l
total-term f [] i a e = absurd (some-ne-none a (sym e))
total-term f (x ∷ xs) zero a e = let h : f x ≡ f a = ap f (some-injective x a e) in omega arith
total-term f (x ∷ xs) (suc i) a e = omega (arith, total-term f xs i a e)

-- the port p of one seat becomes q
pub weigh-set : (f : PortView → ℕ) (vs : List SeatView) (id : ℕ) (p q : PortView) → get_elem? vs id ≡ some (one p) → weigh f (set vs id (one q)) + f p ≡ weigh f vs + f q
weigh-set f vs id p q at = omega (arith, total-set (λ (v : SeatView). total f v.ports) vs id (one p) (one q) at)

pub weigh-term : (f : PortView → ℕ) (vs : List SeatView) (id : ℕ) (p : PortView) → get_elem? vs id ≡ some (one p) → f p ≤ weigh f vs
weigh-term f vs id p at = omega (arith, total-term (λ (v : SeatView). total f v.ports) vs id (one p) at)

pub below_same : (f g : ℕ → ℕ) (n : ℕ) → ((i : ℕ) → i < n → g i ≡ f i) → below g n ≡ below f n
below_same f g zero h = refl
below_same f g (suc n) h = omega (arith, below_same f g n (λ i l. h i (omega arith)), h n (omega arith))

pub below_le : (f g : ℕ → ℕ) (n : ℕ) → ((i : ℕ) → i < n → g i ≤ f i) → below g n ≤ below f n
below_le f g zero h = omega arith
below_le f g (suc n) h = omega (arith, below_le f g n (λ i l. h i (omega arith)), h n (omega arith))

-- the term m of the first n moves
pub below_moved : (f g : ℕ → ℕ) (n m : ℕ) → m < n → ((i : ℕ) → i < n → i ≢ m → g i ≡ f i) → below g n + f m ≡ below f n + g m
below_moved f g zero m l h = absurd (omega arith)
below_moved f g (suc n) m l h = dite (ℕ_discrete m n)
    (λ e. let a = below_same f g n (λ i k. h i (omega arith) (λ d. omega arith)) in let b : f m ≡ f n = ap f e in let c : g m ≡ g n = ap g e in omega arith)
    (λ ne. let a = below_moved f g n m (omega arith) (λ i k d. h i (omega arith) d) in let b = h n (omega arith) (λ e. ne (sym e)) in omega arith)

pub below_term : (f : ℕ → ℕ) (n m : ℕ) → m < n → f m ≤ below f n
below_term f zero m l = absurd (omega arith)
below_term f (suc n) m l = dite (ℕ_discrete m n) (λ e. let b : f m ≡ f n = ap f e in omega arith) (λ ne. omega (arith, below_term f n m (omega arith)))

pub below_zero : (n : ℕ) → below (λ _. 0) n ≡ 0
below_zero zero = refl
below_zero (suc n) = omega (arith, below_zero n)

pub below_bound : (f : ℕ → ℕ) (n : ℕ) → ((i : ℕ) → i < n → f i ≤ 1) → below f n ≤ n
below_bound f zero h = omega arith
below_bound f (suc n) h = omega (arith, below_bound f n (λ i l. h i (omega arith)), h n (omega arith))

pub raised_here : (ns : List ℕ) (t : ℕ) → slice_index (one_more ns t) t ≡ slice_index ns t + 1
raised_here [] zero = refl
raised_here [] (suc t) = omega (arith, raised_here [] t)
raised_here (n ∷ ns) zero = refl
raised_here (n ∷ ns) (suc t) = raised_here ns t

pub raised_else : (ns : List ℕ) (t u : ℕ) → u ≢ t → slice_index (one_more ns t) u ≡ slice_index ns u
raised_else [] zero zero d = absurd (d refl)
raised_else [] zero (suc u) d = refl
raised_else [] (suc t) zero d = refl
raised_else [] (suc t) (suc u) d = raised_else [] t u (λ e. d (ap suc e))
raised_else (n ∷ ns) zero zero d = absurd (d refl)
raised_else (n ∷ ns) zero (suc u) d = refl
raised_else (n ∷ ns) (suc t) zero d = refl
raised_else (n ∷ ns) (suc t) (suc u) d = raised_else ns t u (λ e. d (ap suc e))

-- four numbers in a row, one for each type
pub four_are : (f : ℕ → ℕ) (a b c d : ℕ) → a ≡ f 0 → b ≡ f 1 → c ≡ f 2 → d ≡ f 3 → (t : ℕ) → t < 4 → slice_index (a ∷ b ∷ c ∷ d ∷ []) t ≡ f t
four_are f a b c d ea eb ec ed zero l = ea
four_are f a b c d ea eb ec ed (suc zero) l = eb
four_are f a b c d ea eb ec ed (suc (suc zero)) l = ec
four_are f a b c d ea eb ec ed (suc (suc (suc zero))) l = ed
four_are f a b c d ea eb ec ed (suc (suc (suc (suc n)))) l = absurd (omega arith)

-- the counts over a type's entries, by where they start and how many they are
pub part_is : (f : ℕ → ℕ) (s : Shape) (t start n : ℕ) → start ≡ low s t → n ≡ size s t → below (λ i. f (start + i)) n ≡ count_of s t f
part_is f s t start n a b = ap (λ z. below (λ i. f (z + i)) n) a ∙ ap (below (λ i. f (low s t + i))) b
