-- One script more, with its writer.
use Rattle.std.proofs.Common.{◌≡◌, ℕ, zero, suc, length-append, ◌+◌, ◌<◌, List, [], ◌∷◌, ◌++◌, All, get_or, length, map, refl, sym, ◌∙◌, ap, subst, arith}
use Rattle.std.specs.List.{remove}
use Rattle.std.proofs.lemmas.List.{length-map, map-append}
use Rattle.std.proofs.lemmas.List.Elements.{All-push, All-tail}
use Rattle.chi_flit.specs.declared.operation.Operation.{Operation}
use Rattle.chi_script.specs.declared.operations.AgentOperation.{AgentOperation}
use Rattle.chi_node.specs.Words.{TableId}
use Rattle.chi_audit.specs.Numbers.{numbers}
use Rattle.chi_audit.specs.Tallies.{IsFresh, WriterState}
use Rattle.chi_storm.specs.Scripts.{agent_script, scripts_below}

pub next_scripts : {S : Type 0} (op : S → List Operation) (deeds : List AgentOperation) (n : ℕ) (xs ys : List S) (x : S) → map op xs ≡ scripts_below n deeds → ys ≡ xs ++ x ∷ [] → op x ≡ agent_script n deeds
    → map op ys ≡ scripts_below n deeds ++ agent_script n deeds ∷ []
next_scripts op deeds n xs ys x so_far push is = ap (map op) push ∙ (map-append op xs (x ∷ []) ∙ (ap (λ (os : List (List Operation)). os ++ op x ∷ []) so_far ∙ ap (λ (o : List Operation). scripts_below n deeds ++ o ∷ []) is))

pub one_below : (n : ℕ) (deeds : List AgentOperation) → scripts_below n deeds ++ agent_script n deeds ∷ [] ≡ scripts_below (n + 1) deeds
one_below n deeds =
    let more : suc n ≡ n + 1 = omega arith in
    sym (map-append (λ (agent : ℕ). agent_script agent deeds) (numbers n) (n ∷ [])) ∙ ap (λ (m : ℕ). scripts_below m deeds) more

pub next_fresh : {S : Type 0} (writer : S → WriterState) (cells : List TableId) (xs ys : List S) (x : S) → All (λ s. IsFresh cells (writer s)) xs → ys ≡ xs ++ x ∷ [] → IsFresh cells (writer x)
    → All (λ s. IsFresh cells (writer s)) ys
next_fresh {S} writer cells xs ys x so_far push new =
    let P : S → Type 0 = λ s. IsFresh cells (writer s) in
    subst (All P) (sym push) (All-push P xs x so_far new)

pub left_new : (cells : List TableId) (xs ys : List WriterState) → All (IsFresh cells) xs → ys ≡ remove xs 0 → 0 < length xs → All (IsFresh cells) ys
left_new cells [] ys all cut some = absurd (omega (arith, some))
left_new cells (x ∷ xs) ys all cut some = subst (All (IsFresh cells)) (sym cut) (All-tail (IsFresh cells) x xs all)

pub first_new : (cells : List TableId) (xs : List WriterState) (w : WriterState) → All (IsFresh cells) xs → 0 < length xs → w ≡ get_or xs 0 w → IsFresh cells w
first_new cells xs w all some first = subst (IsFresh cells) (sym first) (all 0 w some)
