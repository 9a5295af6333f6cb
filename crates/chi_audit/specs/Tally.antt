-- Tallies in the order in which they are stored (docs/FORMATS.md, "Reports and tallies").
use Rattle.std.specs.Prelude.{◌≡◌, ◌≤◌, List, [], ◌∷◌, ◌++◌}
use Rattle.chi_audit.specs.declared.tally.Tally.{Tally}

-- the tally of an agent that did nothing so far
abbrev pub opening_tally : Tally
opening_tally = record { turns = 0; loads = 0; stores = 0 }

-- no number of t is above that of u
pub record NotAbove (t u : Tally) : Type 0 where
  pub turns : t.turns ≤ u.turns
  pub loads : t.loads ≤ u.loads
  pub stores : t.stores ≤ u.stores

-- the last tally of the list, or t where it is empty
abbrev pub last_after : Tally → List Tally → Tally
last_after t [] = t
last_after t (u ∷ us) = last_after u us

-- the last tally, or the opening one where none was stored
abbrev pub last_tally : List Tally → Tally
last_tally ts = last_after opening_tally ts

-- from t on no number goes back
abbrev pub RisesAfter : Tally → List Tally → Type 0
RisesAfter t [] = Unit {0}
RisesAfter t (u ∷ us) = NotAbove t u × RisesAfter u us

-- no number goes back
abbrev pub Rises : List Tally → Type 0
Rises ts = RisesAfter opening_tally ts

-- the first list is a beginning of the second
abbrev pub IsBeginning : List Tally → List Tally → Type 0
IsBeginning front whole = (rest : List Tally) × (whole ≡ front ++ rest)
