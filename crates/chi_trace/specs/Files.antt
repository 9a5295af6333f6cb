-- A trace is flits with comments between them, or faulty: then its first faulty line is told
-- (docs/TRACES.md, "Traces").
use Rattle.std.specs.Prelude.{ℕ, ◌+◌, ◌==◌, nat_lt, List, [], ◌∷◌, ◌++◌, Option, Some, None, Result, Ok, Err, length, if◌then◌else◌}
use Rattle.chi_script.specs.Files.{lines_of}
use Rattle.chi_trace.specs.declared.faults.TraceFault.{TraceFault}
use Rattle.chi_trace.specs.declared.faults.TraceFault.TheVariants.{MissingNewline, TooLarge}
use Rattle.chi_trace.specs.declared.flits.Seen.{Seen}
use Rattle.chi_trace.specs.Flits.{flit_at}
use Rattle.chi_trace.specs.Words.{blank_words}

infixl 10 ◌>>=◌
abbrev pub ◌>>=◌ : {A B : Type 0} → Result A TraceFault → (A → Result B TraceFault) → Result B TraceFault
(Ok x) >>= next = next x
(Err fault) >>= next = Err fault

-- a flit, if there is one, as a list
abbrev pub one_of : Option Seen → List Seen
one_of None = []
one_of (Some seen) = seen ∷ []

-- the flits of line n: one, or none
abbrev pub flits_at : ℕ → List ℕ → Result (List Seen) TraceFault
flits_at n line = flit_at n (blank_words line) >>= λ seen. Ok (one_of seen)

-- the flits so far, and that of line n behind them
abbrev pub with_trace_line : List Seen → ℕ → List ℕ → Result (List Seen) TraceFault
with_trace_line before n line = flits_at n line >>= λ here. Ok (before ++ here)

-- the flits of the lines from line n on
unfoldable pub trace_flits : ℕ → List (List ℕ) → Result (List Seen) TraceFault
trace_flits n [] = Ok []
trace_flits n (last ∷ []) = if length last == 0 then Ok [] else Err (MissingNewline n)
trace_flits n (line ∷ next ∷ rest) = do
  here ← flits_at n line
  later ← trace_flits (n + 1) (next ∷ rest)
  Ok (here ++ later)

-- the flits of a file, or its first fault
unfoldable pub trace_of : List ℕ → Result (List Seen) TraceFault
trace_of file = if nat_lt 67108864 (length file) then Err TooLarge else trace_flits 1 (lines_of file)
