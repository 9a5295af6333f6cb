-- Words are put in place of those that lack, one data after the other.
use Rattle.std.proofs.Common.{◌≡◌, ◌∙◌, ◌+◌, ◌<◌, ◌≤◌, ℕ, List, ◌∷◌, add-one, ap, drop, drop-cons, get_or, length, refl, subst, sym}
use Rattle.std.proofs.lemmas.List.{drop_all}
use Rattle.chi_resolution.specs.declared.beats.OpenData.{OpenData}
use Rattle.chi_resolution.specs.declared.lines.Resolved.{Resolved}
use Rattle.chi_verdict.specs.Unseen.{AreFilled, filled_with}

-- whatever is filled in from here on, all is filled in then
abbrev pub Leads : List OpenData → ℕ → List Resolved → List Resolved → Type 0
Leads unfinished at items start = (filled : List Resolved) → AreFilled (drop at unfinished) items filled → AreFilled unfinished start filled

first_of : (unfinished : List OpenData) (at : ℕ) (d : OpenData) → at < length unfinished → drop at unfinished ≡ get_or unfinished at d ∷ drop (at + 1) unfinished
first_of unfinished at d low = rw add-one (drop-cons unfinished at d low)

pub one_more : (unfinished : List OpenData) (at : ℕ) (d begun : OpenData) (others : List ℕ) (items items' start : List Resolved) → at < length unfinished → begun ≡ get_or unfinished at d → items' ≡ filled_with begun others items
    → Leads unfinished at items start → Leads unfinished (at + 1) items' start
one_more unfinished at d begun others items items' start low is next so_far filled rest =
    so_far filled (subst (λ (l : List OpenData). AreFilled l items filled) (sym (first_of unfinished at d low))
    (others, subst (λ (i : List Resolved). AreFilled (drop (at + 1) unfinished) i filled) (next ∙ ap (λ (b : OpenData). filled_with b others items) is) rest))

pub all_filled : (unfinished : List OpenData) (at : ℕ) (items start : List Resolved) → length unfinished ≤ at → Leads unfinished at items start → AreFilled unfinished start items
all_filled unfinished at items start past so_far = so_far items (subst (λ (l : List OpenData). AreFilled l items items) (sym (drop_all at unfinished past)) refl)
