-- What tests that all hold say of each.
use Rattle.std.proofs.Common.{◌≡◌, ◌&&◌, ℕ, Bool, true, false, List, Result, Ok, Err, replicate, refl}
use Rattle.std.specs.List.{All}
use Rattle.std.specs.Prelude.{IsTrue, OnOk}
use Rattle.chi_slice.specs.Slice.{SliceState}
use Rattle.chi_slice.specs.Words.{Sizes}
use Rattle.chi_explain.specs.Explained.{Explained, IsExplained, is_listed}
use Rattle.chi_explain.specs.Opening.{IsOpenAt}
use Rattle.chi_explain.specs.declared.explanations.WitnessItem.{WitnessItem}
use Rattle.chi_explain.specs.declared.observed.Observed.{Observed}
use Rattle.chi_explain.specs.declared.observed.StoreListing.{StoreListing}

pub five_hold : (a b c d e : Bool) → IsTrue ((((a && b) && c) && d) && e) → (a ≡ true) × (b ≡ true) × (c ≡ true) × (d ≡ true) × (e ≡ true)
five_hold true true true true true h = (refl, refl, refl, refl, refl)
five_hold false b c d e h = absurd (cc (h))
five_hold true false c d e h = absurd (cc (h))
five_hold true true false d e h = absurd (cc (h))
five_hold true true true false e h = absurd (cc (h))
five_hold true true true true false h = absurd (cc (h))

pub two_hold : (a b : Bool) → (a && b) ≡ true → (a ≡ true) × (b ≡ true)
two_hold true b h = (refl, h)
two_hold false b h = absurd (cc (h))

-- items that explain what was seen from a slice that is open
pub all_explained : {E : Type 0} (config : Sizes) (stores : StoreListing) (memory : List ℕ) (items : List WitnessItem) (seen : List Observed) (s : SliceState) (result : Result (Unit {0}) E) → (s.config ≡ config) × IsOpenAt memory s
    → All (λ item. is_listed stores item ≡ true) items → OnOk result (Explained s (replicate 8 false) items seen) → OnOk result (IsExplained config stores memory items seen)
all_explained config stores memory items seen s (Ok done) open_at listed is = (s, open_at.0, open_at.1, is, listed)
all_explained config stores memory items seen s (Err cause) open_at listed is = tt
