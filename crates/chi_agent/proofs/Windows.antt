-- The window and what stands behind it.
use Rattle.std.proofs.Common.{◌≡◌, ◌<◌, ◌≤◌, ◌==◌, ◌↔◌, ℕ, ◌+◌, ◌-◌, suc, List, [], ◌∷◌, ◌++◌, Bool, map, length, take, drop, get_or, slice_set, sym, ap, ◌∙◌, subst, append_assoc, add-one, arith, length-append, length-drop, drop-cons, take-suc, ⊎_elim}
use Rattle.std.specs.Prelude.{remove, IsTrue}
use Rattle.std.specs.List.{refill}
use Rattle.std.proofs.Math.Seq.{take-append_seam}
use Rattle.std.proofs.lemmas.Bool.{cases_lt, eqb-true}
use Rattle.std.proofs.lemmas.List.{append-nil, length-map, length-set, map-append, set-append_left, get_or_append_left, get_or_default, take_all, take-append-drop, nil_from_length}
use Rattle.std.proofs.lemmas.List.Edits.{remove-append_left}
use Rattle.chi_flit.specs.declared.operation.Operation.{Operation}
use Rattle.chi_agent.specs.declared.operations.Unfinished.{Unfinished}
use Rattle.chi_agent.specs.Operations.{issued_operation, no_operation, unfinished_at, unfinished_of, unissued_operation, window, IsFilled}

-- what stands behind the window
abbrev pub behind : List Operation → ℕ → List Unfinished
behind script next = map unissued_operation (drop next script)

pub behind_length : (script : List Operation) (next : ℕ) → length (behind script next) ≡ length script - next
behind_length script next = length-map (drop next script) unissued_operation ∙ length-drop next script

-- nothing does where the script is at its end
pub behind_none : (script : List Operation) (next : ℕ) → length script ≤ next → behind script next ≡ []
behind_none script next l = nil_from_length (behind script next) (omega (arith, behind_length script next))

pub all_length : (ws : List Unfinished) (script : List Operation) (next : ℕ)
    → length (unfinished_of ws script next) ≡ length ws + (length script - next)
all_length ws script next = omega (arith, length-append ws (behind script next), behind_length script next)

-- a place below 8 of the unfinished operations is one of the window
pub place_in : (ws : List Unfinished) (script : List Operation) (next p : ℕ) → IsFilled ws script next
    → p < 8 → p < length (unfinished_of ws script next) → p < length ws
place_in ws script next p f l there = ⊎_elim
    (λ short. let done = f.filled short in omega (arith, all_length ws script next))
    (λ full. omega arith)
    (cases_lt (length ws) 8)

-- the window is the first eight
pub windowed : (ws : List Unfinished) (script : List Operation) (next : ℕ) → IsFilled ws script next
    → window (unfinished_of ws script next) ≡ ws
windowed ws script next f = ⊎_elim
    (λ short. ap (λ rest. take 8 (ws ++ rest)) (behind_none script next (f.filled short)) ∙ ap (take 8) (append-nil ws) ∙ take_all 8 ws f.few)
    (λ full. let eight : length ws ≡ 8 = omega (arith, f.few) in subst (λ n. take n (unfinished_of ws script next) ≡ ws) eight (take-append_seam ws (behind script next)))
    (cases_lt (length ws) 8)

-- an empty window leaves nothing
pub none_left : (ws now : List Unfinished) (script : List Operation) (next : ℕ) (b : Bool) → IsFilled ws script next
    → unfinished_of ws script next ≡ now → b ≡ (length ws == 0) → IsTrue b ↔ (now ≡ [])
none_left [] now script next b f same is =
    let empty : now ≡ [] = sym same ∙ behind_none script next (f.filled (omega arith)) in
    (λ h. empty, λ h. is)
none_left (w ∷ ws) now script next b f same is =
    (λ h. absurd (omega (arith, eqb-true (length (w ∷ ws)) 0 (sym is ∙ h))), λ h. absurd (omega (arith, ap length (same ∙ h))))

-- an operation of the window is marked in its place
pub issued_there : (ws slots now : List Unfinished) (script : List Operation) (next p : ℕ) (d : Unfinished) → IsFilled ws script next
    → unfinished_of ws script next ≡ now → slots ≡ ws → p < 8 → p < length now
    → unfinished_of (refill (length ws) ws (slice_set slots p (issued_operation (get_or slots p d)))) script next
    ≡ slice_set now p (issued_operation (unfinished_at now p))
issued_there ws slots now script next p d f same is l there =
    subst (λ xs. unfinished_of (refill (length ws) ws (slice_set xs p (issued_operation (get_or xs p d)))) script next ≡ slice_set now p (issued_operation (unfinished_at now p))) (sym is)
    (subst (λ xs. unfinished_of (refill (length ws) ws (slice_set ws p new)) script next ≡ slice_set xs p (issued_operation (unfinished_at xs p))) same
    (set_there (place_in ws script next p f l (subst (λ xs. p < length xs) (sym same) there))))
  where
    new : Unfinished
    new = issued_operation (get_or ws p d)

    kept : refill (length ws) ws (slice_set ws p new) ≡ slice_set ws p new
    kept = subst (λ n. take n (slice_set ws p new ++ drop (length (slice_set ws p new)) ws) ≡ slice_set ws p new) (length-set ws p new) (take-append_seam (slice_set ws p new) (drop (length (slice_set ws p new)) ws))

    set_there : p < length ws → unfinished_of (refill (length ws) ws (slice_set ws p new)) script next ≡ slice_set (unfinished_of ws script next) p (issued_operation (unfinished_at (unfinished_of ws script next) p))
    set_there lt =
        ap (λ xs. xs ++ behind script next) kept
        ∙ sym (set-append_left ws (behind script next) p new lt)
        ∙ ap (λ one. slice_set (unfinished_of ws script next) p (issued_operation one)) (get_or_default ws p d no_operation lt ∙ sym (get_or_append_left ws (behind script next) no_operation p lt))

-- an operation of the window is taken out, and the next of the script comes in
pub finished_refilled : (ws left now : List Unfinished) (script : List Operation) (next p : ℕ) (one : Operation) → IsFilled ws script next
    → unfinished_of ws script next ≡ now → p < length ws → next < length script → one ≡ get_or script next one → left ≡ remove ws p
    → unfinished_of (left ++ unissued_operation one ∷ []) script (next + 1) ≡ remove now p
finished_refilled ws left now script next p one f same lt more is at =
    ap (λ xs. unfinished_of (xs ++ unissued_operation one ∷ []) script (next + 1)) at
    ∙ append_assoc (remove ws p) (unissued_operation one ∷ []) (behind script (next + 1))
    ∙ ap (λ xs. remove ws p ++ xs) (sym comes)
    ∙ sym (remove-append_left ws (behind script next) p lt)
    ∙ ap (λ xs. remove xs p) same
  where
    comes : behind script next ≡ unissued_operation one ∷ behind script (next + 1)
    comes = ap (map unissued_operation) (drop-cons script next one more)
        ∙ ap (λ x. unissued_operation x ∷ behind script (suc next)) (sym is)
        ∙ ap (λ n. unissued_operation one ∷ behind script n) (sym (add-one next))

-- the next of a script comes in behind those before it
pub grown : (script : List Operation) (n : ℕ) (one : Operation) → n < length script → one ≡ get_or script n one
    → map unissued_operation (take n script) ++ unissued_operation one ∷ [] ≡ map unissued_operation (take (n + 1) script)
grown script n one l is =
    ap (λ x. map unissued_operation (take n script) ++ unissued_operation x ∷ []) is
    ∙ sym (map-append unissued_operation (take n script) (get_or script n one ∷ []))
    ∙ ap (map unissued_operation) (sym (take-suc script n one l) ∙ ap (λ k. take k script) (sym (add-one n)))

pub all_there : (script : List Operation) (n : ℕ) → unfinished_of (map unissued_operation (take n script)) script n ≡ map unissued_operation script
all_there script n = sym (map-append unissued_operation (take n script) (drop n script)) ∙ ap (map unissued_operation) (take-append-drop n script)
