-- Loads and stores that wait, put behind the items one after the other.
use Rattle.std.proofs.Common.{◌≡◌, ◌∙◌, ◌+◌, ◌++◌, ◌<◌, ◌≤◌, ℕ, List, [], ◌∷◌, add-one, ap, append_assoc, drop, drop-cons, get_or, length, refl, sym, take}
use Rattle.std.proofs.lemmas.List.{append-nil, drop_all, take_more}
use Rattle.chi_resolution.specs.declared.lines.Resolved.{Resolved}
use Rattle.chi_verdict.specs.Closing.{behind_ack, closed, closing}

-- what was put so far, with what is still to be put, is all
abbrev pub IsClosedSoFar : List Resolved → ℕ → List Resolved → List Resolved → Type 0
IsClosedSoFar waiting at items start = items ++ closing (take at waiting) (drop at waiting) ≡ closed start waiting

pub none_closed : (waiting start : List Resolved) → IsClosedSoFar waiting 0 start start
none_closed waiting start = refl

pub all_closed : (waiting : List Resolved) (at : ℕ) (items start : List Resolved) → length waiting ≤ at → IsClosedSoFar waiting at items start → items ≡ closed start waiting
unfolding closing
all_closed waiting at items start past so_far =
    sym (append-nil items) ∙ (ap (λ (l : List Resolved). items ++ closing (take at waiting) l) (sym (drop_all at waiting past)) ∙ so_far)

pub one_closed : (waiting : List Resolved) (at : ℕ) (d : Resolved) (before items items' start : List Resolved) → at < length waiting → before ≡ take at waiting → items' ≡ items ++ behind_ack before (get_or waiting at d) → IsClosedSoFar waiting at items start → IsClosedSoFar waiting (at + 1) items' start
unfolding closing
one_closed waiting at d before items items' start low front put so_far =
    let item = get_or waiting at d in
    let taken = take at waiting in
    let rest = drop (at + 1) waiting in
    let first : drop at waiting ≡ item ∷ rest = rw add-one (drop-cons waiting at d low) in
    let more : take (at + 1) waiting ≡ taken ++ item ∷ [] = take_more waiting at d low in
    let same : items' ≡ items ++ behind_ack taken item = put ∙ ap (λ (l : List Resolved). items ++ behind_ack l item) front in
    (λ i. same i ++ closing (more i) rest) ∙ (append_assoc items (behind_ack taken item) (closing (taken ++ item ∷ []) rest) ∙ ((λ i. items ++ closing taken (sym first i)) ∙ so_far))
