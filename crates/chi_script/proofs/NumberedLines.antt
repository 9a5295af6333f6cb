-- A line by its number, among those that are left.
use Rattle.std.proofs.Common.{◌≡◌, ℕ, suc, ◌+◌, ◌-◌, ◌<◌, ◌≤◌, List, [], ◌∷◌, get_or, subst, arith}

-- the line that is wanted stands first
pub at_once : (lines : List (List ℕ)) (line : List ℕ) (after : List (List ℕ)) (number at : ℕ) (wanted : List ℕ) → lines ≡ line ∷ after → number ≤ at
    → get_or lines (number - at) [] ≡ wanted → line ≡ wanted
at_once lines line after number at wanted e low is =
    let none : number - at ≡ 0 = omega (arith, low) in
    subst (λ (ls : List (List ℕ)). get_or ls 0 [] ≡ wanted) e (subst (λ (k : ℕ). get_or lines k [] ≡ wanted) none is)

-- it stands behind the first
pub later : (lines : List (List ℕ)) (line : List ℕ) (after : List (List ℕ)) (number at : ℕ) (wanted : List ℕ) → lines ≡ line ∷ after → at < number
    → get_or lines (number - at) [] ≡ wanted → get_or after (number - (at + 1)) [] ≡ wanted
later lines line after number at wanted e low is =
    let more : number - at ≡ suc (number - (at + 1)) = omega (arith, low) in
    subst (λ (ls : List (List ℕ)). get_or ls (suc (number - (at + 1))) [] ≡ wanted) e (subst (λ (k : ℕ). get_or lines k [] ≡ wanted) more is)

-- there is none
pub past : (lines : List (List ℕ)) (line : List ℕ) (number at : ℕ) (wanted : List ℕ) → lines ≡ line ∷ [] → at < number
    → get_or lines (number - at) [] ≡ wanted → [] ≡ wanted
past lines line number at wanted e low is = later lines line [] number at wanted e low is
