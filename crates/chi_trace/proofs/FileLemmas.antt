-- A trace is read from lines that are its comments and its flits, and from those alone.
use Rattle.std.proofs.Common.{◌≡◌, inl, inr, ℕ, ◌+◌, ◌≤◌, ◌==◌, nat_lt, Bool, true, false, cond, List, [], ◌∷◌, ◌++◌, length, Option, Some, None, Result, Ok, Err, refl, sym, ap, subst, ◌∙◌, arith}
use Rattle.std.proofs.lemmas.Bool.Decides.{nat_tests}
use Rattle.chi_script.specs.Files.{lines_of}
use Rattle.chi_script.proofs.LineLemmas.{parts_of}
use Rattle.chi_trace.specs.declared.faults.TraceFault.{TraceFault}
use Rattle.chi_trace.specs.declared.faults.TraceFault.TheVariants.{MissingNewline, TooLarge}
use Rattle.chi_trace.specs.declared.flits.Seen.{Seen}
use Rattle.chi_trace.specs.Files.{◌>>=◌, flits_at, trace_flits, one_of, trace_of}
use Rattle.chi_trace.specs.Flits.{flit_at}
use Rattle.chi_trace.specs.Spelling.{AreFlits, IsTrace}
use Rattle.chi_trace.specs.Words.{blank_words}
use Rattle.chi_trace.proofs.ColumnLemmas.{empty}
use Rattle.chi_trace.proofs.LineLemmas.{comment_again, comment_read, line_again, line_read}

bound : {A B : Type 0} (step : Result A TraceFault) (next : A → Result B TraceFault) (y : B) → (step >>= next) ≡ Ok y → (x : A) × (step ≡ Ok x) × (next x ≡ Ok y)
bound (Ok x) next y e = (x, refl, e)
bound (Err fault) next y e = cc

-- behind the last line end stands nothing
last_read : (b : Bool) (n : ℕ) (flits : List Seen) → cond b (Ok []) (Err (MissingNewline n)) ≡ Ok flits → (b ≡ true) × ([] ≡ flits)
last_read true n flits e = let same : [] ≡ flits = cc in (refl, same)
last_read false n flits e = cc

-- lines, each of which a line end closes, that are these flits
record AreRead (n : ℕ) (flits : List Seen) (all : List (List ℕ)) : Type 0 where
  lines : List (List ℕ)
  closed : all ≡ lines ++ [] ∷ []
  text : AreFlits n flits lines

-- the flit of a line, if it is one, and those of the lines behind it
one_flit : (n : ℕ) (line : List ℕ) (here : Option Seen) (later flits : List Seen) (lines : List (List ℕ)) → flit_at n (blank_words line) ≡ Ok here → one_of here ++ later ≡ flits → AreFlits (n + 1) later lines
    → AreFlits n flits (line ∷ lines)
one_flit n line None later flits lines read same text = inl (comment_read n (blank_words line) read, subst (λ (fs : List Seen). AreFlits (n + 1) fs lines) same text)
one_flit n line (Some seen) later flits lines read same text = inr (seen, later, sym same, line_read n line seen read, text)

flits_read : (n : ℕ) (line : List ℕ) (rest : List (List ℕ)) (flits : List Seen) → trace_flits n (line ∷ rest) ≡ Ok flits → AreRead n flits (line ∷ rest)
unfolding trace_flits
flits_read n last [] flits e =
    let end = last_read (length last == 0) n flits e in
    record { lines = []; closed = ap (λ (l : List ℕ). l ∷ []) (empty last end.0); text = sym end.1 }
flits_read n line (next ∷ rest) flits e =
    let one = bound (flits_at n line) (λ here. trace_flits (n + 1) (next ∷ rest) >>= λ later. Ok (here ++ later)) flits e in
    let found = bound (flit_at n (blank_words line)) (λ seen. Ok (one_of seen)) one.0 one.1 in
    let more = bound (trace_flits (n + 1) (next ∷ rest)) (λ later. Ok (one.0 ++ later)) flits one.2 in
    let here : one_of found.0 ≡ one.0 = let last = found.2 in cc in
    let same : one.0 ++ more.0 ≡ flits = let last = more.2 in cc in
    let read = flits_read (n + 1) next rest more.0 more.1 in
    record {
      lines = line ∷ read.lines;
      closed = ap (λ (ls : List (List ℕ)). line ∷ ls) read.closed;
      text = one_flit n line found.0 more.0 flits read.lines found.1 (ap (λ (fs : List Seen). fs ++ more.0) here ∙ same) read.text;
    }

-- a file that isn't too large
fits : (b : Bool) (read : Result (List Seen) TraceFault) (x : List Seen) → cond b (Err TooLarge) read ≡ Ok x → (b ≡ false) × (read ≡ Ok x)
fits true read x e = cc
fits false read x e = (refl, e)

not_above : (n : ℕ) → nat_lt 67108864 n ≡ false → n ≤ 67108864
not_above n e = grind (arith, nat_tests)

not_large : (n : ℕ) → n ≤ 67108864 → nat_lt 67108864 n ≡ false
not_large n le = grind (arith, nat_tests)

pub file_read : (file : List ℕ) (flits : List Seen) → trace_of file ≡ Ok flits → IsTrace flits file
unfolding trace_of
file_read file flits e =
    let size = fits (nat_lt 67108864 (length file)) (trace_flits 1 (lines_of file)) flits e in
    let parts = parts_of (λ b. b == 10) file in
    let read = flits_read 1 parts.0 parts.1 flits (ap (trace_flits 1) (sym parts.2) ∙ size.1) in
    record { size = not_above (length file) size.0; lines = read.lines; closed = parts.2 ∙ read.closed; text = read.text }

-- lines that something stands behind
some_behind : (lines : List (List ℕ)) → (first : List ℕ) × (others : List (List ℕ)) × (lines ++ [] ∷ [] ≡ first ∷ others)
some_behind [] = ([], [], refl)
some_behind (line ∷ lines) = (line, lines ++ [] ∷ [], refl)

one_line : (n : ℕ) (line : List ℕ) (lines : List (List ℕ)) → trace_flits n (line ∷ lines ++ [] ∷ []) ≡ (flits_at n line >>= λ here. trace_flits (n + 1) (lines ++ [] ∷ []) >>= λ later. Ok (here ++ later))
unfolding trace_flits
one_line n line lines = let more = some_behind lines in rw more.2 refl

flits_again : (n : ℕ) (flits : List Seen) (lines : List (List ℕ)) → AreFlits n flits lines → trace_flits n (lines ++ [] ∷ []) ≡ Ok flits
unfolding trace_flits
flits_again n flits [] is = ap Ok (sym is)
flits_again n flits (line ∷ lines) (inl is) = one_line n line lines ∙ rw (comment_again n (blank_words line) is.0, flits_again (n + 1) flits lines is.1) refl
flits_again n flits (line ∷ lines) (inr is) =
    let more = flits_again (n + 1) is.1 lines is.4 in
    one_line n line lines ∙ (rw (line_again n is.0 line is.3, more) refl ∙ ap Ok (sym is.2))

pub file_again : (file : List ℕ) (flits : List Seen) → IsTrace flits file → trace_of file ≡ Ok flits
unfolding trace_of
file_again file flits is = rw (not_large (length file) is.size, is.closed) (flits_again 1 flits is.lines is.text)
