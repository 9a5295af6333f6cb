-- Reading the checks one after the other, as a loop does.
use Rattle.std.proofs.Common.{◌≡◌, ℕ, ◌+◌, ◌==◌, true, false, List, [], ◌∷◌, ◌++◌, length, Result, Ok, Err, refl, sym, ap, ◌∙◌, append_assoc}
use Rattle.std.proofs.lemmas.List.{append-nil}
use Rattle.chi_script.specs.declared.faults.Fault.{Fault}
use Rattle.chi_script.specs.declared.faults.Fault.TheVariants.{NoMemory, BadHeader, BadCommand, MissingNewline, TooLarge, Read, Write}
use Rattle.chi_script.specs.Faults.{Fails}
use Rattle.chi_script.specs.Files.{◌>>=◌, lines_of}
use Rattle.chi_script.proofs.FaultLemmas.{failed}
use Rattle.chi_script.proofs.LineLemmas.{parts_of}
use Rattle.chi_script.specs.Checks.{CheckLine}
use Rattle.chi_script.specs.CheckFiles.{checks_at, checks_of, with_check_line}

-- what was read before, and what is still read
abbrev pub with_front : List CheckLine → Result (List CheckLine) Fault → Result (List CheckLine) Fault
with_front front read = read >>= λ checks. Ok (front ++ checks)

-- one line that a line end closes, and what follows it
one_line : (n : ℕ) (rest line after : List ℕ) → lines_of rest ≡ line ∷ lines_of after
    → checks_of n (lines_of rest) ≡ (checks_at n line >>= λ here. checks_of (n + 1) (lines_of after) >>= λ later. Ok (here ++ later))
unfolding checks_of
one_line n rest line after e = let more = parts_of (λ b. b == 10) after in rw (e, more.2) refl

regroup_later : (front here : List CheckLine) (read : Result (List CheckLine) Fault) → with_front front (read >>= λ later. Ok (here ++ later)) ≡ with_front (front ++ here) read
regroup_later front here (Ok later) = ap Ok (sym (append_assoc front here later))
regroup_later front here (Err fault) = refl

known : (front now here : List CheckLine) → with_front front (Ok here) ≡ Ok now → front ++ here ≡ now
known front now here e = cc

no_fault : (fault : Fault) (now : List CheckLine) → Err fault ≡ Ok now → ⊥
no_fault fault now e = cc

goes_with : (here : Result (List CheckLine) Fault) (front now : List CheckLine) (n : ℕ) (rest line after : List ℕ) → checks_at n line ≡ here → lines_of rest ≡ line ∷ lines_of after → with_front front here ≡ Ok now
    → with_front front (checks_of n (lines_of rest)) ≡ with_front now (checks_of (n + 1) (lines_of after))
goes_with (Ok here) front now n rest line after read e is =
    rw (one_line n rest line after e, read) (regroup_later front here (checks_of (n + 1) (lines_of after)) ∙ ap (λ (cs : List CheckLine). with_front cs (checks_of (n + 1) (lines_of after))) (known front now here is))
goes_with (Err fault) front now n rest line after read e is = absurd (no_fault fault now is)

-- the line was read: its check is behind the others, and the rest goes on
pub goes_on : (front now : List CheckLine) (n : ℕ) (rest line after : List ℕ) (total : Result (List CheckLine) Fault) → lines_of rest ≡ line ∷ lines_of after → with_check_line front n line ≡ Ok now
    → with_front front (checks_of n (lines_of rest)) ≡ total → with_front now (checks_of (n + 1) (lines_of after)) ≡ total
goes_on front now n rest line after total e is so_far = sym (goes_with (checks_at n line) front now n rest line after refl e is) ∙ so_far

-- a fault isn't of what was read before
unfronted_is : (fault : Fault) (front : List CheckLine) (read : Result (List CheckLine) Fault) → with_front front read ≡ Err fault → read ≡ Err fault
unfronted_is fault front (Ok here) e = cc
unfronted_is fault front (Err other) e = e

unfronted : (fault : Fault) (front : List CheckLine) (read : Result (List CheckLine) Fault) → Fails fault (with_front front read) → Fails fault read
unfronted NoMemory front read is = tt
unfronted (BadHeader line) front read is = unfronted_is (BadHeader line) front read is
unfronted (BadCommand line) front read is = unfronted_is (BadCommand line) front read is
unfronted (MissingNewline line) front read is = unfronted_is (MissingNewline line) front read is
unfronted TooLarge front read is = unfronted_is TooLarge front read is
unfronted Read front read is = absurd is
unfronted Write front read is = absurd is

pub stops : (fault : Fault) (front : List CheckLine) (n : ℕ) (rest line after : List ℕ) (total : Result (List CheckLine) Fault) → lines_of rest ≡ line ∷ lines_of after → Fails fault (with_check_line front n line)
    → with_front front (checks_of n (lines_of rest)) ≡ total → Fails fault total
stops fault front n rest line after total e is so_far =
    let one : with_front front (checks_of n (lines_of rest)) ≡ ((checks_at n line >>= λ here. checks_of (n + 1) (lines_of after) >>= λ later. Ok (here ++ later)) >>= λ checks. Ok (front ++ checks)) = rw (one_line n rest line after e) refl in
    rw (sym so_far ∙ one) (failed fault _ _ (failed fault _ _ (unfronted fault front (checks_at n line) is)))

pub is_done : (front : List CheckLine) (n : ℕ) (rest : List ℕ) (total : Result (List CheckLine) Fault) → lines_of rest ≡ rest ∷ [] → (length rest == 0) ≡ true → with_front front (checks_of n (lines_of rest)) ≡ total → total ≡ Ok front
unfolding checks_of
is_done front n rest total e empty so_far =
    let one : with_front front (checks_of n (lines_of rest)) ≡ Ok front = rw (e, empty) (ap Ok (append-nil front)) in
    sym so_far ∙ one

pub is_open : (front : List CheckLine) (n : ℕ) (rest : List ℕ) (total : Result (List CheckLine) Fault) → lines_of rest ≡ rest ∷ [] → (length rest == 0) ≡ false → with_front front (checks_of n (lines_of rest)) ≡ total → total ≡ Err (MissingNewline n)
unfolding checks_of
is_open front n rest total e some so_far =
    let one : with_front front (checks_of n (lines_of rest)) ≡ Err (MissingNewline n) = rw (e, some) refl in
    sym so_far ∙ one
