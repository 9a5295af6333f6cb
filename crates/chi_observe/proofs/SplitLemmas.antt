-- The lines of a text that goes on.
use Rattle.std.proofs.Common.{◌≡◌, ℕ, ◌==◌, Bool, true, false, cond, List, [], ◌∷◌, ◌++◌, refl, sym, ap, ◌∙◌}
use Rattle.std.specs.List.{slice_split, onto_first}
use Rattle.chi_script.specs.Files.{lines_of}
use Rattle.chi_script.proofs.LineLemmas.{parts_of}

-- the parts of a list that others follow: the last one goes on with the first of these
abbrev glue : {X : Type 0} → List (List X) → List (List X) → List (List X)
glue [] bs = bs
glue (a ∷ []) [] = a ∷ []
glue (a ∷ []) (b ∷ bs) = (a ++ b) ∷ bs
glue (a ∷ c ∷ cs) bs = a ∷ glue (c ∷ cs) bs

onto_glue : {X : Type 0} (x : X) (first : List X) (others ys : List (List X)) → onto_first x (glue (first ∷ others) ys) ≡ glue ((x ∷ first) ∷ others) ys
onto_glue x first [] [] = refl
onto_glue x first [] (b ∷ bs) = refl
onto_glue x first (c ∷ cs) ys = refl

one_more : {X : Type 0} (b : Bool) (x : X) (whole part ys : List (List X)) (first : List X) (others : List (List X)) → part ≡ first ∷ others → whole ≡ glue part ys
    → cond b ([] ∷ whole) (onto_first x whole) ≡ glue (cond b ([] ∷ part) (onto_first x part)) ys
one_more true x whole part ys first others e is = ap (λ (l : List (List _)). [] ∷ l) (is ∙ ap (λ (q : List (List _)). glue q ys) e) ∙ ap (λ (q : List (List _)). glue ([] ∷ q) ys) (sym e)
one_more false x whole part ys first others e is =
    ap (λ (l : List (List _)). onto_first x l) (is ∙ ap (λ (q : List (List _)). glue q ys) e) ∙ (onto_glue x first others ys ∙ ap (λ (q : List (List _)). glue (onto_first x q) ys) (sym e))

glue_first : {X : Type 0} (parts : List (List X)) (first : List X) (others : List (List X)) → parts ≡ first ∷ others → parts ≡ glue ([] ∷ []) parts
glue_first parts first others e = e ∙ ap (λ (q : List (List _)). glue ([] ∷ []) q) (sym e)

pub split_append : {X : Type 0} (p : X → Bool) (xs ys : List X) → slice_split p (xs ++ ys) ≡ glue (slice_split p xs) (slice_split p ys)
split_append p [] ys = let all = parts_of p ys in glue_first (slice_split p ys) all.0 all.1 all.2
split_append p (x ∷ xs) ys =
    let all = parts_of p xs in
    one_more (p x) x (slice_split p (xs ++ ys)) (slice_split p xs) (slice_split p ys) all.0 all.1 all.2 (split_append p xs ys)

glue_next : {X : Type 0} (line : List X) (parts ys : List (List X)) (first : List X) (others : List (List X)) → parts ≡ first ∷ others → glue (line ∷ parts) ys ≡ line ∷ glue parts ys
glue_next line parts ys first others e = ap (λ (q : List (List _)). glue (line ∷ q) ys) e ∙ ap (λ (q : List (List _)). line ∷ glue q ys) (sym e)

-- the first line is the same, whatever follows
pub first_of_more : (bytes line after more : List ℕ) → lines_of bytes ≡ line ∷ lines_of after → lines_of (bytes ++ more) ≡ line ∷ lines_of (after ++ more)
first_of_more bytes line after more e =
    let all = parts_of (λ (b : ℕ). b == 10) after in
    split_append (λ b. b == 10) bytes more
    ∙ (ap (λ (q : List (List ℕ)). glue q (lines_of more)) e
    ∙ (glue_next line (lines_of after) (lines_of more) all.0 all.1 all.2
    ∙ ap (λ (q : List (List ℕ)). line ∷ q) (sym (split_append (λ b. b == 10) after more))))

-- a line that no line end closes goes on with the first of the lines that follow
pub goes_on_as : (line more : List ℕ) → lines_of line ≡ line ∷ [] → (first : List ℕ) × (others : List (List ℕ)) × (lines_of (line ++ more) ≡ (line ++ first) ∷ others)
goes_on_as line more part =
    let all = parts_of (λ (b : ℕ). b == 10) more in
    (all.0, all.1, split_append (λ b. b == 10) line more ∙ (λ i. glue (part i) (all.2 i)))
