-- A change at one agent.
use Rattle.std.proofs.Common.{rules, arith, ◌≡◌, ◌≢◌, ℕ, ap}
use Rattle.std.specs.Prelude.{Bool, true, false, ◌==◌, if◌then◌else◌}
use Rattle.chi_observer.specs.Worlds.{put}

pub differ : (m n : ℕ) → (m == n) ≡ false → m ≢ n
differ m n h e = search (rules, arith)

alike : (n : ℕ) → (n == n) ≡ true
alike n = search (rules, arith)

pub unlike : (m n : ℕ) → m ≢ n → (m == n) ≡ false
unlike m n h = search (rules, arith)

pub here : {A : Type 0} (n : ℕ) (x : A) (f : ℕ → A) → put n x f n ≡ x
here n x f = ap (λ (b : Bool). if b then x else f n) (alike n)

pub there : {A : Type 0} (n : ℕ) (x : A) (f : ℕ → A) (m : ℕ) → m ≢ n → put n x f m ≡ f m
there n x f m h = ap (λ (b : Bool). if b then x else f m) (unlike m n h)
