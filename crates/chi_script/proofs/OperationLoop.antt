-- Reading the operations one after the other, as a loop does.
use Rattle.std.proofs.Common.{◌≡◌, ℕ, ◌+◌, ◌==◌, true, false, List, [], ◌∷◌, ◌++◌, length, Result, Ok, Err, refl, sym, ap, ◌∙◌, append_assoc}
use Rattle.std.proofs.lemmas.List.{append-nil}
use Rattle.chi_script.specs.declared.operations.AgentOperation.{AgentOperation}
use Rattle.chi_flit.specs.Config.{Sizes}
use Rattle.chi_script.specs.declared.faults.Fault.{Fault}
use Rattle.chi_script.specs.declared.faults.Fault.TheVariants.{MissingNewline}
use Rattle.chi_script.specs.Faults.{Fails}
use Rattle.chi_script.specs.Files.{◌>>=◌, lines_of}
use Rattle.chi_script.specs.Storms.{operation_at, operations_from}
use Rattle.chi_script.proofs.FaultLemmas.{failed}
use Rattle.chi_script.proofs.LineLemmas.{parts_of}

-- what was read before, and what is still read
abbrev pub with_front : List AgentOperation → Result (List AgentOperation) Fault → Result (List AgentOperation) Fault
with_front front read = read >>= λ operations. Ok (front ++ operations)

-- one line that a line end closes, and what follows it
one_line : (header : Sizes) (n : ℕ) (rest line after : List ℕ) → lines_of rest ≡ line ∷ lines_of after
    → operations_from header n (lines_of rest) ≡ (operation_at header n line >>= λ operation. operations_from header (n + 1) (lines_of after) >>= λ operations. Ok (operation ∷ operations))
unfolding operations_from
one_line header n rest line after e = let more = parts_of (λ b. b == 10) after in rw (e, more.2) refl

regroup : (front : List AgentOperation) (operation : AgentOperation) (read : Result (List AgentOperation) Fault) → with_front front (read >>= λ operations. Ok (operation ∷ operations)) ≡ with_front (front ++ operation ∷ []) read
regroup front operation (Ok operations) = ap Ok (simp append_assoc)
regroup front operation (Err fault) = refl

pub goes_on : (header : Sizes) (front : List AgentOperation) (n : ℕ) (rest line after : List ℕ) (operation : AgentOperation) (total : Result (List AgentOperation) Fault) → lines_of rest ≡ line ∷ lines_of after → operation_at header n line ≡ Ok operation
    → with_front front (operations_from header n (lines_of rest)) ≡ total → with_front (front ++ operation ∷ []) (operations_from header (n + 1) (lines_of after)) ≡ total
goes_on header front n rest line after operation total e is so_far =
    let one : with_front front (operations_from header n (lines_of rest)) ≡ with_front (front ++ operation ∷ []) (operations_from header (n + 1) (lines_of after)) = rw (one_line header n rest line after e, is) (regroup front operation (operations_from header (n + 1) (lines_of after))) in
    sym one ∙ so_far

pub stops : (header : Sizes) (fault : Fault) (front : List AgentOperation) (n : ℕ) (rest line after : List ℕ) (total : Result (List AgentOperation) Fault) → lines_of rest ≡ line ∷ lines_of after → Fails fault (operation_at header n line)
    → with_front front (operations_from header n (lines_of rest)) ≡ total → Fails fault total
stops header fault front n rest line after total e is so_far =
    let one : with_front front (operations_from header n (lines_of rest)) ≡ ((operation_at header n line >>= λ operation. operations_from header (n + 1) (lines_of after) >>= λ operations. Ok (operation ∷ operations)) >>= λ operations. Ok (front ++ operations)) = rw (one_line header n rest line after e) refl in
    rw (sym so_far ∙ one) (failed fault _ _ (failed fault _ _ is))

pub is_done : (header : Sizes) (front : List AgentOperation) (n : ℕ) (rest : List ℕ) (total : Result (List AgentOperation) Fault) → lines_of rest ≡ rest ∷ [] → (length rest == 0) ≡ true → with_front front (operations_from header n (lines_of rest)) ≡ total → total ≡ Ok front
unfolding operations_from
is_done header front n rest total e empty so_far =
    let one : with_front front (operations_from header n (lines_of rest)) ≡ Ok front = rw (e, empty) (ap Ok (append-nil front)) in
    sym so_far ∙ one

pub is_open : (header : Sizes) (front : List AgentOperation) (n : ℕ) (rest : List ℕ) (total : Result (List AgentOperation) Fault) → lines_of rest ≡ rest ∷ [] → (length rest == 0) ≡ false → with_front front (operations_from header n (lines_of rest)) ≡ total → total ≡ Err (MissingNewline n)
unfolding operations_from
is_open header front n rest total e some so_far =
    let one : with_front front (operations_from header n (lines_of rest)) ≡ Err (MissingNewline n) = rw (e, some) refl in
    sym so_far ∙ one
