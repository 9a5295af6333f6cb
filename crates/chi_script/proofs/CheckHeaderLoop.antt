-- Reading the lines up to the header one after the other, as a loop does.
use Rattle.std.proofs.Common.{◌≡◌, ℕ, ◌+◌, ◌==◌, true, false, List, [], ◌∷◌, length, Result, Ok, Err, refl, sym, ◌∙◌}
use Rattle.chi_flit.specs.Config.{Sizes}
use Rattle.chi_script.specs.declared.faults.Fault.{Fault}
use Rattle.chi_script.specs.declared.faults.Fault.TheVariants.{BadHeader, MissingNewline}
use Rattle.chi_script.specs.Faults.{Fails}
use Rattle.chi_script.specs.Files.{◌>>=◌, header_at, lines_of}
use Rattle.chi_script.proofs.FaultLemmas.{failed}
use Rattle.chi_script.proofs.LineLemmas.{parts_of}
use Rattle.chi_script.specs.Checks.{CheckLine, is_comment}
use Rattle.chi_script.specs.CheckFiles.{checks_of, check_script_of}

-- a comment is passed over
pub passes : (n : ℕ) (rest line after : List ℕ) (total : Result (Sizes × List CheckLine) Fault) → lines_of rest ≡ line ∷ lines_of after → is_comment line ≡ true
    → check_script_of n (lines_of rest) ≡ total → check_script_of (n + 1) (lines_of after) ≡ total
unfolding check_script_of
passes n rest line after total e comment so_far =
    let more = parts_of (λ b. b == 10) after in
    let one : check_script_of n (lines_of rest) ≡ check_script_of (n + 1) (lines_of after) = rw (e, more.2, comment) refl in
    sym one ∙ so_far

-- the first line that is none has the header, and the checks follow
one_header : (n : ℕ) (rest line after : List ℕ) → lines_of rest ≡ line ∷ lines_of after → is_comment line ≡ false
    → check_script_of n (lines_of rest) ≡ (header_at n line >>= λ header. checks_of (n + 1) (lines_of after) >>= λ checks. Ok (header, checks))
unfolding check_script_of
one_header n rest line after e plain = let more = parts_of (λ b. b == 10) after in rw (e, more.2, plain) refl

pub bad_header : (fault : Fault) (n : ℕ) (rest line after : List ℕ) (total : Result (Sizes × List CheckLine) Fault) → lines_of rest ≡ line ∷ lines_of after → is_comment line ≡ false
    → Fails fault (header_at n line) → check_script_of n (lines_of rest) ≡ total → Fails fault total
bad_header fault n rest line after total e plain is so_far = rw (sym so_far ∙ one_header n rest line after e plain) (failed fault _ _ is)

pub bad_checks : (fault : Fault) (n : ℕ) (rest line after : List ℕ) (header : Sizes) (total : Result (Sizes × List CheckLine) Fault) → lines_of rest ≡ line ∷ lines_of after → is_comment line ≡ false
    → header_at n line ≡ Ok header → Fails fault (checks_of (n + 1) (lines_of after)) → check_script_of n (lines_of rest) ≡ total → Fails fault total
bad_checks fault n rest line after header total e plain read is so_far = rw (sym so_far ∙ one_header n rest line after e plain, read) (failed fault _ _ is)

pub good : (n : ℕ) (rest line after : List ℕ) (header : Sizes) (checks : List CheckLine) (total : Result (Sizes × List CheckLine) Fault) → lines_of rest ≡ line ∷ lines_of after → is_comment line ≡ false
    → header_at n line ≡ Ok header → checks_of (n + 1) (lines_of after) ≡ Ok checks → check_script_of n (lines_of rest) ≡ total → total ≡ Ok (header, checks)
good n rest line after header checks total e plain read all so_far = sym so_far ∙ (one_header n rest line after e plain ∙ rw (read, all) refl)

pub is_done : (n : ℕ) (rest : List ℕ) (total : Result (Sizes × List CheckLine) Fault) → lines_of rest ≡ rest ∷ [] → (length rest == 0) ≡ true → check_script_of n (lines_of rest) ≡ total → total ≡ Err (BadHeader n)
unfolding check_script_of
is_done n rest total e empty so_far =
    let one : check_script_of n (lines_of rest) ≡ Err (BadHeader n) = rw (e, empty) refl in
    sym so_far ∙ one

pub is_open : (n : ℕ) (rest : List ℕ) (total : Result (Sizes × List CheckLine) Fault) → lines_of rest ≡ rest ∷ [] → (length rest == 0) ≡ false → check_script_of n (lines_of rest) ≡ total → total ≡ Err (MissingNewline n)
unfolding check_script_of
is_open n rest total e some so_far =
    let one : check_script_of n (lines_of rest) ≡ Err (MissingNewline n) = rw (e, some) refl in
    sym so_far ∙ one
