-- The eight words of a line.
use Rattle.std.proofs.Common.{rules, arith, ◌≡◌, ℕ, ◌<◌, ap}
use Rattle.std.specs.Prelude.{Bool, true, Option, None, nat_lt, if◌then◌else◌}
use Rattle.chi_copies.specs.Observed.{of_eight}

below_eight : (p : ℕ) → p < 8 → nat_lt p 8 ≡ true
below_eight p l = search (rules, arith)

pub eight_is : (k : ℕ → Option ℕ) (p : ℕ) → p < 8 → of_eight k p ≡ k p
eight_is k p l = ap (λ (b : Bool). if b then k p else None) (below_eight p l)
