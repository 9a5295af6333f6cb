-- Reading the flits of a file's lines one after the other, as a loop does.
use Rattle.std.proofs.Common.{◌≡◌, ℕ, ◌+◌, ◌==◌, List, [], ◌∷◌, ◌++◌, Option, Result, Ok, Err, refl, sym, ap, ◌∙◌, append_assoc}
use Rattle.std.proofs.lemmas.List.{append-nil}
use Rattle.chi_script.specs.Files.{lines_of}
use Rattle.chi_script.proofs.LineLemmas.{parts_of}
use Rattle.chi_trace.specs.Faults.{TraceFails}
use Rattle.chi_trace.specs.Files.{◌>>=◌, one_of}
use Rattle.chi_trace.specs.declared.faults.TraceFault.{TraceFault}
use Rattle.chi_trace.specs.declared.faults.TraceFault.TheVariants.{NoMemory, TooLarge, Gzip, LongLine, MissingNewline, FewWords, BadWord}
use Rattle.chi_trace.specs.declared.flits.Seen.{Seen}
use Rattle.chi_trace.proofs.FaultLemmas.{failed}
use Rattle.chi_verdict.specs.Traces.{Trace, behind, cut_at, ended, line_flit, trace_from, with_line}

-- a fault that is given is one of reading
pub fails : {Y : Type 0} (fault : TraceFault) (read : Result Y TraceFault) → Err fault ≡ read → TraceFails fault read
fails NoMemory read is = tt
fails TooLarge read is = sym is
fails Gzip read is = sym is
fails (LongLine line) read is = sym is
fails (MissingNewline line) read is = sym is
fails (FewWords line) read is = sym is
fails (BadWord line column) read is = sym is

-- the flits that were read before, and those that are still read
abbrev pub with_front : List Seen → Result Trace TraceFault → Result (List Seen) TraceFault
with_front front read = read >>= λ later. Ok (front ++ later.seen)

-- one line that a line end closes, and what follows it
one_line : (n : ℕ) (rest line after : List ℕ) → lines_of rest ≡ line ∷ lines_of after
    → trace_from n (lines_of rest) ≡ (line_flit n line >>= λ here. trace_from (n + 1) (lines_of after) >>= λ later. Ok (behind (one_of here) later))
unfolding trace_from
one_line n rest line after e = let more = parts_of (λ b. b == 10) after in rw (e, more.2) refl

regroup_later : (front here : List Seen) (read : Result Trace TraceFault) → with_front front (read >>= λ later. Ok (behind here later)) ≡ with_front (front ++ here) read
regroup_later front here (Ok later) = ap Ok (sym (append_assoc front here later.seen))
regroup_later front here (Err fault) = refl

no_fault : (fault : TraceFault) (now : List Seen) → Err fault ≡ Ok now → ⊥
no_fault fault now e = cc

known : (front now here : List Seen) → ◌≡◌ {A = Result (List Seen) TraceFault} (Ok (front ++ here)) (Ok now) → front ++ here ≡ now
known front now here e = cc

goes_with : (here : Result (Option Seen) TraceFault) (front now : List Seen) (n : ℕ) (rest line after : List ℕ) → line_flit n line ≡ here → lines_of rest ≡ line ∷ lines_of after → (here >>= λ seen. Ok (front ++ one_of seen)) ≡ Ok now
    → with_front front (trace_from n (lines_of rest)) ≡ with_front now (trace_from (n + 1) (lines_of after))
goes_with (Ok here) front now n rest line after read e is =
    rw (one_line n rest line after e, read) (regroup_later front (one_of here) (trace_from (n + 1) (lines_of after)) ∙ ap (λ (cs : List Seen). with_front cs (trace_from (n + 1) (lines_of after))) (known front now (one_of here) is))
goes_with (Err fault) front now n rest line after read e is = absurd (no_fault fault now is)

-- the line was read: its flit is behind the others, and the rest goes on
pub goes_on : (front now : List Seen) (n : ℕ) (rest line after : List ℕ) (total : Result (List Seen) TraceFault) → lines_of rest ≡ line ∷ lines_of after → with_line front n line ≡ Ok now
    → with_front front (trace_from n (lines_of rest)) ≡ total → with_front now (trace_from (n + 1) (lines_of after)) ≡ total
goes_on front now n rest line after total e is so_far = sym (goes_with (line_flit n line) front now n rest line after refl e is) ∙ so_far

-- a fault isn't of what was read before
unfronted_is : (fault : TraceFault) (front : List Seen) (read : Result (Option Seen) TraceFault) → (read >>= λ seen. Ok (front ++ one_of seen)) ≡ Err fault → read ≡ Err fault
unfronted_is fault front (Ok here) e = cc
unfronted_is fault front (Err other) e = let same : other ≡ fault = cc in ap Err same

unfronted : (fault : TraceFault) (front : List Seen) (read : Result (Option Seen) TraceFault) → TraceFails fault (read >>= λ seen. Ok (front ++ one_of seen)) → TraceFails fault read
unfronted NoMemory front read is = tt
unfronted TooLarge front read is = unfronted_is TooLarge front read is
unfronted Gzip front read is = unfronted_is Gzip front read is
unfronted (LongLine line) front read is = unfronted_is (LongLine line) front read is
unfronted (MissingNewline line) front read is = unfronted_is (MissingNewline line) front read is
unfronted (FewWords line) front read is = unfronted_is (FewWords line) front read is
unfronted (BadWord line column) front read is = unfronted_is (BadWord line column) front read is

pub stops : (fault : TraceFault) (front : List Seen) (n : ℕ) (rest line after : List ℕ) (total : Result (List Seen) TraceFault) → lines_of rest ≡ line ∷ lines_of after → TraceFails fault (with_line front n line)
    → with_front front (trace_from n (lines_of rest)) ≡ total → TraceFails fault total
stops fault front n rest line after total e is so_far =
    let one : with_front front (trace_from n (lines_of rest)) ≡ ((line_flit n line >>= λ here. trace_from (n + 1) (lines_of after) >>= λ later. Ok (behind (one_of here) later)) >>= λ later. Ok (front ++ later.seen)) = rw (one_line n rest line after e) refl in
    rw (sym so_far ∙ one) (failed fault _ _ (failed fault _ _ (unfronted fault front (line_flit n line) is)))

-- behind the last line end
end_of : (n : ℕ) (rest : List ℕ) → lines_of rest ≡ rest ∷ [] → trace_from n (lines_of rest) ≡ (cut_at n rest >>= λ cut. Ok (ended cut))
unfolding trace_from
end_of n rest e = rw e refl

pub is_done : (front : List Seen) (n : ℕ) (rest : List ℕ) (cut : Option ℕ) (total : Result (List Seen) TraceFault) → lines_of rest ≡ rest ∷ [] → Ok cut ≡ cut_at n rest → with_front front (trace_from n (lines_of rest)) ≡ total → total ≡ Ok front
is_done front n rest cut total e end so_far =
    sym so_far ∙ (ap (with_front front) (end_of n rest e) ∙ (ap (λ (r : Result (Option ℕ) TraceFault). with_front front (r >>= λ cut. Ok (ended cut))) (sym end) ∙ ap Ok (append-nil front)))

pub is_misfit : (fault : TraceFault) (front : List Seen) (n : ℕ) (rest : List ℕ) (total : Result (List Seen) TraceFault) → lines_of rest ≡ rest ∷ [] → Err fault ≡ cut_at n rest → with_front front (trace_from n (lines_of rest)) ≡ total → TraceFails fault total
is_misfit fault front n rest total e end so_far =
    fails fault total (sym (sym so_far ∙ (ap (with_front front) (end_of n rest e) ∙ ap (λ (r : Result (Option ℕ) TraceFault). with_front front (r >>= λ cut. Ok (ended cut))) (sym end))))
