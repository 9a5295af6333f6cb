-- Reading the flits one after the other, as a loop does.
use Rattle.std.proofs.Common.{◌≡◌, ℕ, ◌+◌, ◌==◌, true, false, List, [], ◌∷◌, ◌++◌, length, Result, Ok, Err, refl, sym, ap, ◌∙◌, append_assoc}
use Rattle.std.proofs.lemmas.List.{append-nil}
use Rattle.chi_script.specs.Files.{lines_of}
use Rattle.chi_script.proofs.LineLemmas.{parts_of}
use Rattle.chi_trace.specs.declared.faults.TraceFault.{TraceFault}
use Rattle.chi_trace.specs.declared.faults.TraceFault.TheVariants.{NoMemory, TooLarge, Gzip, LongLine, MissingNewline, FewWords, BadWord}
use Rattle.chi_trace.specs.declared.flits.Seen.{Seen}
use Rattle.chi_trace.specs.Faults.{TraceFails}
use Rattle.chi_trace.specs.Files.{◌>>=◌, flits_at, trace_flits, with_trace_line}
use Rattle.chi_trace.proofs.FaultLemmas.{failed}

-- what was read before, and what is still read
abbrev pub with_front : List Seen → Result (List Seen) TraceFault → Result (List Seen) TraceFault
with_front front read = read >>= λ flits. Ok (front ++ flits)

-- one line that a line end closes, and what follows it
one_line : (n : ℕ) (rest line after : List ℕ) → lines_of rest ≡ line ∷ lines_of after
    → trace_flits n (lines_of rest) ≡ (flits_at n line >>= λ here. trace_flits (n + 1) (lines_of after) >>= λ later. Ok (here ++ later))
unfolding trace_flits
one_line n rest line after e = let more = parts_of (λ b. b == 10) after in rw (e, more.2) refl

regroup_later : (front here : List Seen) (read : Result (List Seen) TraceFault) → with_front front (read >>= λ later. Ok (here ++ later)) ≡ with_front (front ++ here) read
regroup_later front here (Ok later) = ap Ok (sym (append_assoc front here later))
regroup_later front here (Err fault) = refl

known : (front now here : List Seen) → with_front front (Ok here) ≡ Ok now → front ++ here ≡ now
known front now here e = cc

no_fault : (fault : TraceFault) (now : List Seen) → Err fault ≡ Ok now → ⊥
no_fault fault now e = cc

goes_with : (here : Result (List Seen) TraceFault) (front now : List Seen) (n : ℕ) (rest line after : List ℕ) → flits_at n line ≡ here → lines_of rest ≡ line ∷ lines_of after → with_front front here ≡ Ok now
    → with_front front (trace_flits n (lines_of rest)) ≡ with_front now (trace_flits (n + 1) (lines_of after))
goes_with (Ok here) front now n rest line after read e is =
    rw (one_line n rest line after e, read) (regroup_later front here (trace_flits (n + 1) (lines_of after)) ∙ ap (λ (cs : List Seen). with_front cs (trace_flits (n + 1) (lines_of after))) (known front now here is))
goes_with (Err fault) front now n rest line after read e is = absurd (no_fault fault now is)

-- the line was read: its flit is behind the others, and the rest goes on
pub goes_on : (front now : List Seen) (n : ℕ) (rest line after : List ℕ) (total : Result (List Seen) TraceFault) → lines_of rest ≡ line ∷ lines_of after → with_trace_line front n line ≡ Ok now
    → with_front front (trace_flits n (lines_of rest)) ≡ total → with_front now (trace_flits (n + 1) (lines_of after)) ≡ total
goes_on front now n rest line after total e is so_far = sym (goes_with (flits_at n line) front now n rest line after refl e is) ∙ so_far

-- a fault isn't of what was read before
unfronted_is : (fault : TraceFault) (front : List Seen) (read : Result (List Seen) TraceFault) → with_front front read ≡ Err fault → read ≡ Err fault
unfronted_is fault front (Ok here) e = cc
unfronted_is fault front (Err other) e = e

unfronted : (fault : TraceFault) (front : List Seen) (read : Result (List Seen) TraceFault) → TraceFails fault (with_front front read) → TraceFails fault read
unfronted NoMemory front read is = tt
unfronted TooLarge front read is = unfronted_is TooLarge front read is
unfronted Gzip front read is = unfronted_is Gzip front read is
unfronted (LongLine line) front read is = unfronted_is (LongLine line) front read is
unfronted (MissingNewline line) front read is = unfronted_is (MissingNewline line) front read is
unfronted (FewWords line) front read is = unfronted_is (FewWords line) front read is
unfronted (BadWord line column) front read is = unfronted_is (BadWord line column) front read is

pub stops : (fault : TraceFault) (front : List Seen) (n : ℕ) (rest line after : List ℕ) (total : Result (List Seen) TraceFault) → lines_of rest ≡ line ∷ lines_of after → TraceFails fault (with_trace_line front n line)
    → with_front front (trace_flits n (lines_of rest)) ≡ total → TraceFails fault total
stops fault front n rest line after total e is so_far =
    let one : with_front front (trace_flits n (lines_of rest)) ≡ ((flits_at n line >>= λ here. trace_flits (n + 1) (lines_of after) >>= λ later. Ok (here ++ later)) >>= λ flits. Ok (front ++ flits)) = rw (one_line n rest line after e) refl in
    rw (sym so_far ∙ one) (failed fault _ _ (failed fault _ _ (unfronted fault front (flits_at n line) is)))

pub is_done : (front : List Seen) (n : ℕ) (rest : List ℕ) (total : Result (List Seen) TraceFault) → lines_of rest ≡ rest ∷ [] → (length rest == 0) ≡ true → with_front front (trace_flits n (lines_of rest)) ≡ total → total ≡ Ok front
unfolding trace_flits
is_done front n rest total e empty so_far =
    let one : with_front front (trace_flits n (lines_of rest)) ≡ Ok front = rw (e, empty) (ap Ok (append-nil front)) in
    sym so_far ∙ one

pub is_open : (front : List Seen) (n : ℕ) (rest : List ℕ) (total : Result (List Seen) TraceFault) → lines_of rest ≡ rest ∷ [] → (length rest == 0) ≡ false → with_front front (trace_flits n (lines_of rest)) ≡ total → total ≡ Err (MissingNewline n)
unfolding trace_flits
is_open front n rest total e some so_far =
    let one : with_front front (trace_flits n (lines_of rest)) ≡ Err (MissingNewline n) = rw (e, some) refl in
    sym so_far ∙ one
