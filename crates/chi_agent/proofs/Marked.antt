-- The deliveries that are marked are those at which a test is true.
use Rattle.std.proofs.Common.{◌≡◌, ℕ, ◌+◌, ◌<◌, List, [], ◌∷◌, ◌++◌, Bool, true, false, map, length, take, get_or, if◌then◌else◌, sym, ap, ◌∙◌, append-nil}
use Rattle.std.specs.List.{filter}
use Rattle.std.proofs.lemmas.List.{get_or-map, take_more}
use Rattle.std.proofs.lemmas.List.Elements.{filter-append}
use Rattle.chi_agent.specs.declared.choice.Call.{Call}

-- one more delivery
more : (f : Call → Bool) (xs found : List Call) (n : ℕ) (d : Call) → n < length xs → found ≡ filter f (take n xs) → found ++ (if f (get_or xs n d) then get_or xs n d ∷ [] else []) ≡ filter f (take (n + 1) xs)
more f xs found n d low here =
    ap (λ (ys : List Call). ys ++ (if f (get_or xs n d) then get_or xs n d ∷ [] else [])) here
    ∙ (sym (filter-append f (take n xs) (get_or xs n d ∷ [])) ∙ ap (filter f) (sym (take_more xs n d low)))

pub marked_here : (f : Call → Bool) (marks : List Bool) (xs found : List Call) (n : ℕ) (d : Call) (b : Bool) → n < length xs → marks ≡ map f xs → get_or marks n b ≡ true → found ≡ filter f (take n xs) → found ++ get_or xs n d ∷ [] ≡ filter f (take (n + 1) xs)
marked_here f marks xs found n d b low marks_is mark here =
    let is_true : f (get_or xs n d) ≡ true = sym (get_or-map f xs n d b low) ∙ (ap (λ (ms : List Bool). get_or ms n b) (sym marks_is) ∙ mark) in
    ap (λ (c : Bool). found ++ (if c then get_or xs n d ∷ [] else [])) (sym is_true) ∙ more f xs found n d low here

pub unmarked_here : (f : Call → Bool) (marks : List Bool) (xs found : List Call) (n : ℕ) (d : Call) (b : Bool) → n < length xs → marks ≡ map f xs → get_or marks n b ≡ false → found ≡ filter f (take n xs) → found ≡ filter f (take (n + 1) xs)
unmarked_here f marks xs found n d b low marks_is mark here =
    let is_false : f (get_or xs n d) ≡ false = sym (get_or-map f xs n d b low) ∙ (ap (λ (ms : List Bool). get_or ms n b) (sym marks_is) ∙ mark) in
    sym (append-nil found) ∙ (ap (λ (c : Bool). found ++ (if c then get_or xs n d ∷ [] else [])) (sym is_false) ∙ more f xs found n d low here)
