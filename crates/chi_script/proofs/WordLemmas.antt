-- What a list holds once the pieces of a line were added to it.
use Rattle.std.specs.Prelude.{◌≡◌, List, Option, Result, OnOk}
use Rattle.std.specs.Iterator.{Drains, Yields}
use Rattle.std.specs.Result.{MatchResult}
use Rattle.std.proofs.Common.{map, ap, ◌∙◌}
use Rattle.std.proofs.lemmas.Iterator.{YieldsList}
use Rattle.std.proofs.lemmas.Iterator.Adapters.{fact_from_extend}
use Rattle.std.proofs.lemmas.Iterator.Consumers.{YieldsList-at}

-- a list that has just what it was extended by, a chain that gives values
pub items_taken : {T A C E : Type 0} {steps : T → Option A → T → Type 0} {all : List C} {v : A → C} {P : List A → Type 0} {s : T} (after : List A) (r : Result (Unit {0}) E)
    → ((it : T) × (xs : List A) × (it ≡ s) × P xs × MatchResult r (λ _. Drains steps it xs) (λ _. (t : T) × Yields steps it xs t))
    → ((xs : List A) → P xs → after ≡ xs) → YieldsList steps v s all → OnOk r (map v after ≡ all)
items_taken {v = v} after r ran has road = fact_from_extend v r ran (λ it b. YieldsList-at b road) (λ xs e h. ap (map v) (has xs h) ∙ e)
