-- A trace that is read a line at a time is the trace that its file is, counted and resolved.
use Rattle.std.proofs.Common.{◌≡◌, ℕ, ◌+◌, ◌==◌, not, Bool, true, false, cond, List, [], ◌∷◌, ◌++◌, Option, Some, None, Result, Ok, Err, refl, sym, ap, subst, ◌∙◌, append_assoc, arith}
use Rattle.std.specs.List.{count_by}
use Rattle.std.proofs.lemmas.List.{append-nil, length-append}
use Rattle.std.proofs.lemmas.List.Sums.{sum_by-append}
use Rattle.chi_script.specs.Files.{lines_of}
use Rattle.chi_script.proofs.LineLemmas.{parts_of}
use Rattle.chi_trace.specs.Faults.{TraceFails}
use Rattle.chi_trace.specs.Files.{◌>>=◌, one_of}
use Rattle.chi_trace.specs.declared.faults.TraceFault.{TraceFault}
use Rattle.chi_trace.specs.declared.faults.TraceFault.TheVariants.{NoMemory, TooLarge, Gzip, LongLine, MissingNewline, FewWords, BadWord}
use Rattle.chi_trace.specs.declared.flits.Seen.{Seen}
use Rattle.chi_trace.proofs.FaultLemmas.{failed}
use Rattle.chi_resolution.specs.Resolution.{IdOutcome, resolution_of, resolved_from, resolved_more}
use Rattle.chi_resolution.specs.declared.resolution.Options.{Options}
use Rattle.chi_resolution.proofs.Steps.{resolution_more}
use Rattle.chi_verdict.specs.declared.readings.Counts.{Counts}
use Rattle.chi_verdict.specs.declared.readings.Reading.{Reading}
use Rattle.chi_verdict.specs.Readings.{IsReadAs, IsReadingOf, IsResolvedTo, ReadSoFar, cut_off, last_read, lines_read, nothing_read, read_if, read_line, read_more}
use Rattle.chi_verdict.specs.Counts.{AreCounts, is_access, is_seen_access}
use Rattle.chi_verdict.specs.Traces.{Trace, behind, cut_at, ended, line_flit, trace_from}

-- one line that a line end closes, and what follows it
one_line : (options : Options) (n : ℕ) (rest line after : List ℕ) (state : ReadSoFar) → lines_of rest ≡ line ∷ lines_of after
    → lines_read options n (lines_of rest) state ≡ (read_line options n line state >>= λ more. lines_read options (n + 1) (lines_of after) more)
unfolding lines_read
one_line options n rest line after state e = let more = parts_of (λ b. b == 10) after in rw (e, more.2) refl

pub goes_on : (options : Options) (n : ℕ) (rest line after : List ℕ) (state next : ReadSoFar) (total : Result ReadSoFar TraceFault) → lines_of rest ≡ line ∷ lines_of after → read_line options n line state ≡ Ok next
    → lines_read options n (lines_of rest) state ≡ total → lines_read options (n + 1) (lines_of after) next ≡ total
goes_on options n rest line after state next total e read so_far =
    sym (one_line options n rest line after state e ∙ ap (λ (r : Result ReadSoFar TraceFault). r >>= λ more. lines_read options (n + 1) (lines_of after) more) read) ∙ so_far

pub stops : (fault : TraceFault) (options : Options) (n : ℕ) (rest line after : List ℕ) (state : ReadSoFar) (total : Result ReadSoFar TraceFault) → lines_of rest ≡ line ∷ lines_of after → TraceFails fault (read_line options n line state)
    → lines_read options n (lines_of rest) state ≡ total → TraceFails fault total
stops fault options n rest line after state total e is so_far = rw (sym so_far ∙ one_line options n rest line after state e) (failed fault _ _ is)

-- behind the last line end
end_of : (options : Options) (n : ℕ) (rest : List ℕ) (state : ReadSoFar) → lines_of rest ≡ rest ∷ [] → lines_read options n (lines_of rest) state ≡ last_read n rest state
unfolding lines_read
end_of options n rest state e = rw e refl

pub is_done : (options : Options) (n : ℕ) (rest : List ℕ) (state last : ReadSoFar) (total : Result ReadSoFar TraceFault) → lines_of rest ≡ rest ∷ [] → last_read n rest state ≡ Ok last → lines_read options n (lines_of rest) state ≡ total → total ≡ Ok last
is_done options n rest state last total e end so_far = sym so_far ∙ (end_of options n rest state e ∙ end)

pub is_misfit : (fault : TraceFault) (options : Options) (n : ℕ) (rest : List ℕ) (state : ReadSoFar) (total : Result ReadSoFar TraceFault) → lines_of rest ≡ rest ∷ [] → TraceFails fault (last_read n rest state) → lines_read options n (lines_of rest) state ≡ total → TraceFails fault total
is_misfit fault options n rest state total e end so_far = rw (sym so_far ∙ end_of options n rest state e) end

-- one flit more is counted
count_one : (p : Seen → Bool) (front : List Seen) (seen : Seen) → count_by p (front ++ (seen ∷ [])) ≡ count_by p front + cond (p seen) 1 0
count_one p front seen = sum_by-append (λ x. cond (p x) 1 0) front (seen ∷ []) ∙ omega arith

counted_case : (b : Bool) (front : List Seen) (seen : Seen) (counts : Counts) → is_access seen.flit ≡ b → AreCounts front counts
    → AreCounts (front ++ (seen ∷ [])) (cond b (record { all = counts.all + 1; flits = counts.flits; accesses = counts.accesses + 1; cut = counts.cut }) (record { all = counts.all + 1; flits = counts.flits + 1; accesses = counts.accesses; cut = counts.cut }))
counted_case true front seen counts at are = record {
  all = omega (arith, are.all, length-append front (seen ∷ []));
  flits = are.flits ∙ sym (count_one (λ one. not (is_seen_access one)) front seen ∙ (ap (λ (b : Bool). count_by (λ one. not (is_seen_access one)) front + cond (not b) 1 0) at ∙ omega arith));
  accesses = ap (λ (n : ℕ). n + 1) are.accesses ∙ sym (count_one is_seen_access front seen ∙ ap (λ (b : Bool). count_by is_seen_access front + cond b 1 0) at);
}
counted_case false front seen counts at are = record {
  all = omega (arith, are.all, length-append front (seen ∷ []));
  flits = ap (λ (n : ℕ). n + 1) are.flits ∙ sym (count_one (λ one. not (is_seen_access one)) front seen ∙ ap (λ (b : Bool). count_by (λ one. not (is_seen_access one)) front + cond (not b) 1 0) at);
  accesses = are.accesses ∙ sym (count_one is_seen_access front seen ∙ (ap (λ (b : Bool). count_by is_seen_access front + cond b 1 0) at ∙ omega arith));
}

-- the flits so far are counted and resolved
pub record IsSoFar (options : Options) (front : List Seen) (state : ReadSoFar) : Type 0 where
  pub counts : AreCounts front state.counts
  pub outcome : state.outcome ≡ resolution_of options front

so_far_more : (options : Options) (front : List Seen) (seen : Seen) (state : ReadSoFar) → IsSoFar options front state → IsSoFar options (front ++ (seen ∷ [])) (read_more options state seen)
so_far_more options front seen state is = record {
  counts = counted_case (is_access seen.flit) front seen state.counts refl is.counts;
  outcome = (λ i. resolved_more options (is.counts.all i) (is.outcome i) seen) ∙ sym (resolution_more options front seen);
}

-- reading counts and resolves what a file's lines are behind the flits in front, and tells which is cut; or it has their fault
pub ReadsLike : Options → List Seen → Result Trace TraceFault → Result ReadSoFar TraceFault → Type 0
ReadsLike options front (Ok trace) (Ok state) = IsSoFar options (front ++ trace.seen) state × (state.counts.cut ≡ trace.cut)
ReadsLike options front (Ok trace) (Err fault) = ⊥
ReadsLike options front (Err fault) given = given ≡ Err fault

shifted : (options : Options) (front here : List Seen) (read : Result Trace TraceFault) (given : Result ReadSoFar TraceFault) → ReadsLike options (front ++ here) read given
    → ReadsLike options front (read >>= λ later. Ok (behind here later)) given
unfolding ReadsLike
shifted options front here (Ok later) (Ok state) is = (subst (λ (flits : List Seen). IsSoFar options flits state) (append_assoc front here later.seen) is.0, is.1)
shifted options front here (Ok later) (Err fault) is = is
shifted options front here (Err fault) given is = is

cut_case : (options : Options) (front : List Seen) (state : ReadSoFar) (found : Result (Option ℕ) TraceFault) → IsSoFar options front state → ReadsLike options front (found >>= λ cut. Ok (ended cut)) (found >>= λ cut. Ok (cut_off cut state))
unfolding ReadsLike
cut_case options front state (Ok cut) is =
    let here : IsSoFar options front (cut_off cut state) = record { counts = record { all = is.counts.all; flits = is.counts.flits; accesses = is.counts.accesses }; outcome = is.outcome } in
    (subst (λ (flits : List Seen). IsSoFar options flits (cut_off cut state)) (sym (append-nil front)) here, refl)
cut_case options front state (Err fault) is = refl

same_fault : (options : Options) (front : List Seen) (fault : TraceFault) → ReadsLike options front (Err fault) (Err fault)
unfolding ReadsLike
same_fault options front fault = refl

line_case : (options : Options) (front : List Seen) (state : ReadSoFar) (found : Result (Option Seen) TraceFault) (read : Result Trace TraceFault) (given : ReadSoFar → Result ReadSoFar TraceFault) → IsSoFar options front state
    → ((here : List Seen) (more : ReadSoFar) → IsSoFar options (front ++ here) more → ReadsLike options (front ++ here) read (given more))
    → ReadsLike options front (found >>= λ here. read >>= λ later. Ok (behind (one_of here) later)) ((found >>= λ seen. Ok (read_if options state seen)) >>= given)
line_case options front state (Err fault) read given is rest = same_fault options front fault
line_case options front state (Ok None) read given is rest =
    shifted options front [] read (given state) (rest [] state (subst (λ (flits : List Seen). IsSoFar options flits state) (sym (append-nil front)) is))
line_case options front state (Ok (Some seen)) read given is rest =
    shifted options front (seen ∷ []) read (given (read_more options state seen)) (rest (seen ∷ []) (read_more options state seen) (so_far_more options front seen state is))

reads_like : (options : Options) (n : ℕ) (lines : List (List ℕ)) (front : List Seen) (state : ReadSoFar) → IsSoFar options front state → ReadsLike options front (trace_from n lines) (lines_read options n lines state)
unfolding trace_from lines_read
reads_like options n [] front state is = cut_case options front state (Ok None) is
reads_like options n (last ∷ []) front state is = cut_case options front state (cut_at n last) is
reads_like options n (line ∷ next ∷ rest) front state is =
    line_case options front state (line_flit n line) (trace_from (n + 1) (next ∷ rest)) (λ more. lines_read options (n + 1) (next ∷ rest) more) is
    (λ here more so_far. reads_like options (n + 1) (next ∷ rest) (front ++ here) more so_far)

nothing_so_far : (options : Options) → IsSoFar options [] nothing_read
unfolding resolved_from
nothing_so_far options = record { counts = record { all = refl; flits = refl; accesses = refl }; outcome = refl }

pub all_like : (options : Options) (file : List ℕ) → ReadsLike options [] (trace_from 1 (lines_of file)) (lines_read options 1 (lines_of file) nothing_read)
all_like options file = reads_like options 1 (lines_of file) [] nothing_read (nothing_so_far options)

-- a fault of reading is that of the lines
err_alike : (options : Options) (fault : TraceFault) (read : Result Trace TraceFault) (given : Result ReadSoFar TraceFault) → ReadsLike options [] read given → given ≡ Err fault → read ≡ Err fault
unfolding ReadsLike
err_alike options fault (Ok trace) (Ok state) is e = cc
err_alike options fault (Ok trace) (Err other) is e = absurd is
err_alike options fault (Err told) given is e = let same : Err told ≡ Err fault = sym is ∙ e in let one : told ≡ fault = cc in ap Err one

pub fails_alike : (options : Options) (fault : TraceFault) (read : Result Trace TraceFault) (given : Result ReadSoFar TraceFault) → ReadsLike options [] read given → TraceFails fault given → TraceFails fault read
fails_alike options NoMemory read given is fails = tt
fails_alike options TooLarge read given is fails = err_alike options TooLarge read given is fails
fails_alike options Gzip read given is fails = err_alike options Gzip read given is fails
fails_alike options (LongLine line) read given is fails = err_alike options (LongLine line) read given is fails
fails_alike options (MissingNewline line) read given is fails = err_alike options (MissingNewline line) read given is fails
fails_alike options (FewWords line) read given is fails = err_alike options (FewWords line) read given is fails
fails_alike options (BadWord line column) read given is fails = err_alike options (BadWord line column) read given is fails

-- a trace that was read is that of the lines
ok_alike : {Y : Type 0} (options : Options) (read : Result Trace TraceFault) (given : Result ReadSoFar TraceFault) (state : ReadSoFar) (reading : Reading Y) → ReadsLike options [] read given → given ≡ Ok state → IsReadingOf state reading
    → IsReadAs options (Ok reading) read
unfolding ReadsLike
ok_alike options (Ok trace) (Ok read) state reading is e of =
    let same : read ≡ state = cc in
    let so_far = subst (λ (s : ReadSoFar). IsSoFar options trace.seen s) same is.0 in
    record {
      counts = subst (λ (c : Counts). AreCounts trace.seen c) (sym of.counts) so_far.counts;
      cut = ap (λ (c : Counts). c.cut) of.counts ∙ (ap (λ (s : ReadSoFar). s.counts.cut) (sym same) ∙ is.1);
      resolved = subst (λ (o : IdOutcome). IsResolvedTo o reading.resolution) so_far.outcome of.resolved;
    }
ok_alike options (Ok trace) (Err fault) state reading is e of = absurd is
ok_alike options (Err fault) given state reading is e of = let no : Err fault ≡ Ok state = sym is ∙ e in cc

pub is_read : {Y : Type 0} (options : Options) (file : List ℕ) (state : ReadSoFar) (reading : Reading Y) → lines_read options 1 (lines_of file) nothing_read ≡ Ok state → IsReadingOf state reading → IsReadAs options (Ok reading) (trace_from 1 (lines_of file))
is_read options file state reading e of = ok_alike options (trace_from 1 (lines_of file)) (lines_read options 1 (lines_of file) nothing_read) state reading (all_like options file) e of

pub is_faulty : (options : Options) (file : List ℕ) (fault : TraceFault) → TraceFails fault (lines_read options 1 (lines_of file) nothing_read) → TraceFails fault (trace_from 1 (lines_of file))
is_faulty options file fault fails = fails_alike options fault (trace_from 1 (lines_of file)) (lines_read options 1 (lines_of file) nothing_read) (all_like options file) fails
