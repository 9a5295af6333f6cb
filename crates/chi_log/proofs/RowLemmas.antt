-- The words of a line, one after the other.
use Rattle.std.proofs.Common.{◌≡◌, ℕ, List, [], ◌∷◌, Some, None, refl, drop}
use Rattle.std.specs.Prelude.{slice_get}

abbrev pub Words : Type 0
Words = List (List ℕ)

pub no_more : (ws : Words) → None ≡ slice_get ws 0 → ws ≡ []
no_more [] e = refl
no_more (w ∷ ws) e = absurd (cc (e))

pub one_more : (ws rest tail : Words) (w : List ℕ) → Some w ≡ slice_get ws 0 → rest ≡ drop 1 ws → rest ≡ tail → ws ≡ w ∷ tail
one_more [] rest tail w e r t = absurd (cc (e))
one_more (v ∷ ws) rest tail w e r t = cc (e, r, t)
