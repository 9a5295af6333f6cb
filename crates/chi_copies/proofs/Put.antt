-- A change at one cache.
use Rattle.std.proofs.Common.{rules, arith, ◌≡◌, ◌≢◌, ℕ, refl, sym, ap, subst}
use Rattle.std.specs.Prelude.{Bool, true, false, ◌==◌, if◌then◌else◌}
use Rattle.std.proofs.lemmas.Bool.{eqb-true}
use Rattle.chi_copies.specs.Worlds.{put}

pub differ : (m n : ℕ) → (m == n) ≡ false → m ≢ n
differ m n h e = search (rules, arith)

pub alike : (n : ℕ) → (n == n) ≡ true
alike n = search (rules, arith)

pub unlike : (m n : ℕ) → m ≢ n → (m == n) ≡ false
unlike m n h = search (rules, arith)

pub here : {A : Type 0} (n : ℕ) (x : A) (f : ℕ → A) → put n x f n ≡ x
here n x f = ap (λ (b : Bool). if b then x else f n) (alike n)

pub there : {A : Type 0} (n : ℕ) (x : A) (f : ℕ → A) (m : ℕ) → m ≢ n → put n x f m ≡ f m
there n x f m h = ap (λ (b : Bool). if b then x else f m) (unlike m n h)

split_at : (P : ℕ → Type 0) (n m : ℕ) (b : Bool) → (m == n) ≡ b → P n → (m ≢ n → P m) → P m
split_at P n m true e at rest = subst P (sym (eqb-true m n e)) at
split_at P n m false e at rest = rest (differ m n e)

-- of n, and of each other
pub split : (P : ℕ → Type 0) (n : ℕ) → P n → ((m : ℕ) → m ≢ n → P m) → (m : ℕ) → P m
split P n at rest m = split_at P n m (m == n) refl at (rest m)

-- of two functions that are changed at n
pub everywhere : {A B : Type 0} (R : ℕ → A → B → Type 0) (n : ℕ) (a : A) (b : B) (f : ℕ → A) (g : ℕ → B) → R n a b → ((m : ℕ) → m ≢ n → R m (f m) (g m)) → (m : ℕ) → R m (put n a f m) (put n b g m)
everywhere R n a b f g at rest = split (λ m. R m (put n a f m) (put n b g m)) n
    (subst (λ x. R n x (put n b g n)) (sym (here n a f)) (subst (λ y. R n a y) (sym (here n b g)) at))
    (λ m h. subst (λ x. R m x (put n b g m)) (sym (there n a f m h)) (subst (λ y. R m (f m) y) (sym (there n b g m h)) (rest m h)))

-- and back
pub at_it : {A B : Type 0} (R : ℕ → A → B → Type 0) (n : ℕ) (a : A) (b : B) (f : ℕ → A) (g : ℕ → B) → ((m : ℕ) → R m (put n a f m) (put n b g m)) → R n a b
at_it R n a b f g all = subst (λ y. R n a y) (here n b g) (subst (λ x. R n x (put n b g n)) (here n a f) (all n))

pub at_else : {A B : Type 0} (R : ℕ → A → B → Type 0) (n : ℕ) (a : A) (b : B) (f : ℕ → A) (g : ℕ → B) → ((m : ℕ) → R m (put n a f m) (put n b g m)) → (m : ℕ) → m ≢ n → R m (f m) (g m)
at_else R n a b f g all m h = subst (λ y. R m (f m) y) (there n b g m h) (subst (λ x. R m x (put n b g m)) (there n a f m h) (all m))

-- of each two
pub pairwise : {A : Type 0} (R : ℕ → ℕ → A → A → Type 0) (n : ℕ) (a : A) (f : ℕ → A) → ((m : ℕ) → m ≢ n → R n m a (f m)) → ((m : ℕ) → m ≢ n → R m n (f m) a) → ((i j : ℕ) → i ≢ j → R i j (f i) (f j)) → (i j : ℕ) → i ≢ j → R i j (put n a f i) (put n a f j)
pairwise R n a f from to rest = split (λ i. (j : ℕ) → i ≢ j → R i j (put n a f i) (put n a f j)) n
    (λ j d. subst (λ x. R n j x (put n a f j)) (sym (here n a f)) (subst (λ y. R n j a y) (sym (there n a f j (λ e. d (sym e)))) (from j (λ e. d (sym e)))))
    (λ i h. split (λ j. i ≢ j → R i j (put n a f i) (put n a f j)) n
    (λ d. subst (λ x. R i n x (put n a f n)) (sym (there n a f i h)) (subst (λ y. R i n (f i) y) (sym (here n a f)) (to i h)))
    (λ j k d. subst (λ x. R i j x (put n a f j)) (sym (there n a f i h)) (subst (λ y. R i j (f i) y) (sym (there n a f j k)) (rest i j d))))
