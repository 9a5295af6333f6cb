-- Numbers of agents, where one is set.
use Rattle.std.proofs.Common.{rules, arith, ◌≡◌, ◌≢◌, ◌<◌, ◌==◌, ℕ, zero, suc, Bool, true, false, List, [], ◌∷◌, ◌++◌, length, refl, slice_set}
use Rattle.std.proofs.Math.Path.{fun_ext}
use Rattle.std.proofs.lemmas.Bool.{eqb-true}
use Rattle.std.proofs.lemmas.Grind.{get_or-set_at}
use Rattle.std.proofs.lemmas.List.{get_or-set_other}
use Rattle.std.specs.Prelude.{if◌then◌else◌}
use Rattle.std.specs.List.{slice_index_or}
use Rattle.chi_observer.specs.Worlds.{put}
use Rattle.chi_observe.specs.Marks.{copies_in}

-- a place more
zero_behind : (xs : List ℕ) (n : ℕ) → slice_index_or (xs ++ 0 ∷ []) n 0 ≡ slice_index_or xs n 0
zero_behind [] zero = refl
zero_behind [] (suc n) = refl
zero_behind (x ∷ xs) zero = refl
zero_behind (x ∷ xs) (suc n) = zero_behind xs n

pub place_more : (xs : List ℕ) → copies_in (xs ++ 0 ∷ []) ≡ copies_in xs
place_more xs = fun_ext (zero_behind xs)

-- a place is set
differ : (m n : ℕ) → (m == n) ≡ false → m ≢ n
differ m n h e = search (rules, arith)

place_at : (xs : List ℕ) (n x m : ℕ) (b : Bool) → (m == n) ≡ b → n < length xs → slice_index_or (slice_set xs n x) m 0 ≡ (if b then x else slice_index_or xs m 0)
place_at xs n x m true e low = get_or-set_at xs n m x 0 (eqb-true m n e) low
place_at xs n x m false e low = get_or-set_other xs n m x 0 (differ m n e)

pub place_set : (xs : List ℕ) (n x : ℕ) → n < length xs → copies_in (slice_set xs n x) ≡ put n x (copies_in xs)
place_set xs n x low = fun_ext (λ m. place_at xs n x m (m == n) refl low)
