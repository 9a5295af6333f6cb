-- What holds of all below a number, as a test of one after the other finds it.
use Rattle.std.proofs.Common.{◌≡◌, ℕ, ◌+◌, ◌<◌, ◌==◌, Bool, true, false, ◌&&◌, ◌↔◌, refl, sym, subst, arith}
use Rattle.std.specs.Prelude.{IsTrue}
use Rattle.std.proofs.lemmas.Bool.{and_parts, and_from}

abbrev pub AllBelow : (ℕ → Type 0) → ℕ → Type 0
AllBelow P n = (k : ℕ) → k < n → P k

pub none_below : (P : ℕ → Type 0) → IsTrue true ↔ AllBelow P 0
none_below P = (λ t k low. absurd (omega (arith, low)), λ all. refl)

one_more : (P : ℕ → Type 0) (n : ℕ) → AllBelow P n → P n → AllBelow P (n + 1)
one_more P n below here = λ k low. go k low (k == n) refl
  where
    go : (k : ℕ) → k < n + 1 → (b : Bool) → (k == n) ≡ b → P k
    go k low true same = let e : k ≡ n = grind (arith, same) in subst P (sym e) here
    go k low false apart = below k (grind (arith, low, apart))

-- one more is tested
pub next_below : (P : ℕ → Type 0) (n : ℕ) (before here after : Bool) → IsTrue before ↔ AllBelow P n → IsTrue here ↔ P n → after ≡ (before && here) → IsTrue after ↔ AllBelow P (n + 1)
next_below P n before here after so_far now is = (
  λ t. let parts = and_parts before here (subst IsTrue is t) in one_more P n (so_far.0 parts.0) (now.0 parts.1),
  λ all. subst IsTrue (sym is) (and_from before here (so_far.1 (λ k low. all k (omega (arith, low)))) (now.1 (all n (omega arith)))),
)

-- all eight were tested
pub all_below : (P : ℕ → Type 0) (n : ℕ) (found : Bool) → n ≡ 8 → IsTrue found ↔ AllBelow P n → IsTrue found ↔ AllBelow P 8
all_below P n found eight so_far = subst (λ (m : ℕ). IsTrue found ↔ AllBelow P m) eight so_far
