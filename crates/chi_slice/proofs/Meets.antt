-- A walk that tests one element of a list after the other.
use Rattle.std.proofs.Common.{◌≡◌, ◌↔◌, ℕ, ◌+◌, ◌<◌, ◌≤◌, List, [], ◌∷◌, ◌++◌, Bool, ◌&&◌, All, get_or, take, length, refl, sym, subst, arith, length-append}
use Rattle.std.specs.Prelude.{IsTrue}
use Rattle.std.proofs.lemmas.Bool.{and_from, and_parts}
use Rattle.std.proofs.lemmas.List.{get_or_append_left, get_or_push, take_all, take_more}
use Rattle.std.proofs.lemmas.List.Elements.{All-push}

-- all of a list and one more
pub all_parts : {X : Type 0} (P : X → Type 0) (xs : List X) (x : X) → All P (xs ++ x ∷ []) → All P xs × P x
all_parts P xs x all = (λ k d low. subst P (get_or_append_left xs (x ∷ []) d k low) (all k d (omega (arith, low, length-append xs (x ∷ [])))), subst P (get_or_push xs x x (length xs) refl) (all (length xs) x (omega (arith, length-append xs (x ∷ [])))))

-- whether the first n elements meet a condition
abbrev pub MeetBelow : {X : Type 0} → (X → Type 0) → List X → ℕ → Bool → Type 0
MeetBelow P xs n found = IsTrue found ↔ All P (take n xs)

pub next_meets : {X : Type 0} (P : X → Type 0) (xs : List X) (n : ℕ) (x : X) (found here : Bool) → MeetBelow P xs n found → n < length xs → x ≡ get_or xs n x → IsTrue here ↔ P x → MeetBelow P xs (n + 1) (found && here)
next_meets P xs n x found here so_far low is verdict =
    let more = take_more xs n x low in
    let own : IsTrue here ↔ P (get_or xs n x) = subst (λ z. IsTrue here ↔ P z) is verdict in (
      λ t. let both = and_parts found here t in subst (All P) (sym more) (All-push P (take n xs) (get_or xs n x) (so_far.0 both.0) (own.0 both.1)),
      λ all. let both = all_parts P (take n xs) (get_or xs n x) (subst (All P) more all) in and_from found here (so_far.1 both.0) (own.1 both.1),
    )

pub all_meet : {X : Type 0} (P : X → Type 0) (xs : List X) (n : ℕ) (found : Bool) → MeetBelow P xs n found → length xs ≤ n → IsTrue found ↔ All P xs
all_meet P xs n found so_far past = subst (λ ys. IsTrue found ↔ All P ys) (take_all n xs past) so_far
