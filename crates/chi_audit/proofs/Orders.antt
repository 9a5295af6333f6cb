-- Rising lists of tallies.
use Rattle.std.proofs.Common.{◌≡◌, List, [], ◌∷◌, ◌++◌, refl, sym, subst, le_refl, le_trans, append-nil}
use Rattle.chi_audit.specs.declared.tally.Tally.{Tally}
use Rattle.chi_audit.specs.Tally.{opening_tally, NotAbove, last_after, last_tally, RisesAfter, Rises, IsBeginning}

not_above_same : (t : Tally) → NotAbove t t
not_above_same t = record { turns = le_refl _; loads = le_refl _; stores = le_refl _ }

not_above_over : (t u v : Tally) → NotAbove t u → NotAbove u v → NotAbove t v
not_above_over t u v a b = record { turns = le_trans a.turns b.turns; loads = le_trans a.loads b.loads; stores = le_trans a.stores b.stores }

last_added_after : (s : Tally) (ts : List Tally) (t : Tally) → last_after s (ts ++ t ∷ []) ≡ t
last_added_after s [] t = refl
last_added_after s (u ∷ us) t = last_added_after u us t

pub last_added : (ts : List Tally) (t : Tally) → last_tally (ts ++ t ∷ []) ≡ t
last_added ts t = last_added_after opening_tally ts t

rises_added_after : (s : Tally) (ts : List Tally) (t : Tally) → RisesAfter s ts → NotAbove (last_after s ts) t → RisesAfter s (ts ++ t ∷ [])
rises_added_after s [] t rises later = (later, tt)
rises_added_after s (u ∷ us) t rises later = (rises.0, rises_added_after u us t rises.1 later)

pub rises_added : (ts : List Tally) (t : Tally) → Rises ts → NotAbove (last_tally ts) t → Rises (ts ++ t ∷ [])
rises_added ts t rises later = rises_added_after opening_tally ts t rises later

first_not_above : (s : Tally) (ts : List Tally) → RisesAfter s ts → NotAbove s (last_after s ts)
first_not_above s [] rises = not_above_same s
first_not_above s (u ∷ us) rises = not_above_over s u (last_after u us) rises.0 (first_not_above u us rises.1)

longer_not_above : (s : Tally) (front rest : List Tally) → RisesAfter s (front ++ rest) → NotAbove (last_after s front) (last_after s (front ++ rest))
longer_not_above s [] rest rises = first_not_above s rest rises
longer_not_above s (u ∷ us) rest rises = longer_not_above u us rest rises.1

pub begins_whole : (ts : List Tally) → IsBeginning ts ts
begins_whole ts = ([], sym (append-nil ts))

-- the last tally of a beginning is not above that of the whole
pub beginning_not_above : (front whole : List Tally) → IsBeginning front whole → Rises whole → NotAbove (last_tally front) (last_tally whole)
beginning_not_above front whole begins rises = subst (λ (ts : List Tally). NotAbove (last_tally front) (last_tally ts)) (sym begins.1)
    (longer_not_above opening_tally front begins.0 (subst Rises begins.1 rises))
