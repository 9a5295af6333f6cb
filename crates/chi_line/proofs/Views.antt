-- Arrays that show a list place by place.
use Rattle.std.proofs.Common.{◌≡◌, ℕ, ◌<◌, ◌≤◌, List, map, length, get_or, sym, ◌∙◌, subst, arith}
use Rattle.std.proofs.lemmas.List.{ext_get_or, length-map, get_or-map}

-- the places below n show the list's elements, seen by f
pub record ShowsBelow {X Y : Type 0} (f : X → Y) (d : X) (e : Y) (xs : List X) (ys : List Y) (n : ℕ) : Type 0 where
  pub size : length ys ≡ 8
  pub each : (k : ℕ) → k < n → get_or ys k e ≡ f (get_or xs k d)

pub shows_all : {X Y : Type 0} (f : X → Y) (d : X) (e : Y) (xs : List X) (ys : List Y) (n : ℕ) → ShowsBelow f d e xs ys n → length xs ≡ 8 → 8 ≤ n → ys ≡ map f xs
shows_all f d e xs ys n shows eight all =
    ext_get_or e ys (map f xs) (shows.size ∙ (sym eight ∙ sym (length-map xs f)))
    (λ k low. let low' : k < 8 = subst (λ m. k < m) shows.size low in shows.each k (omega (arith, low', all)) ∙ sym (get_or-map f xs k d e (subst (λ m. k < m) (sym eight) low')))
