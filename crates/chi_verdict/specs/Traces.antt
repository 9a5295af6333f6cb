-- What is read of a file: its flits, loads and stores, and a last line that no line end follows (docs/TRACES.md, "Traces").
use Rattle.std.specs.Prelude.{ℕ, ◌+◌, ◌==◌, nat_lt, List, [], ◌∷◌, ◌++◌, Option, Some, None, Result, Ok, Err, length, if◌then◌else◌}
use Rattle.chi_script.specs.Files.{lines_of}
use Rattle.chi_trace.specs.AnyFlits.{is_gzip}
use Rattle.chi_trace.specs.Files.{◌>>=◌, one_of}
use Rattle.chi_trace.specs.Flits.{flit_at}
use Rattle.chi_trace.specs.Words.{blank_words}
use Rattle.chi_trace.specs.declared.faults.TraceFault.{TraceFault}
use Rattle.chi_trace.specs.declared.faults.TraceFault.TheVariants.{Gzip, LongLine, TooLarge}
use Rattle.chi_trace.specs.declared.flits.Seen.{Seen}

-- the flits, loads and stores, and the number of a last line that isn't read, as no line end follows it
pub record Trace : Type 0 where
  pub seen : List Seen
  pub cut : Option ℕ

-- a line is none of a trace, whatever its words are, where it is that of a compressed file, or has more than 4,096 bytes
abbrev pub misfit : ℕ → List ℕ → Option TraceFault
misfit n line = if is_gzip line then Some Gzip else (if nat_lt 4096 (length line) then Some (LongLine n) else None)

abbrev pub unless : {A : Type 0} → Option TraceFault → Result A TraceFault → Result A TraceFault
unless None read = read
unless (Some fault) read = Err fault

-- the flit of line n
unfoldable pub line_flit : ℕ → List ℕ → Result (Option Seen) TraceFault
line_flit n line = unless (misfit n line) (flit_at n (blank_words line))

-- what stands behind the last line end: nothing, or a line of this number that is cut
unfoldable pub cut_at : ℕ → List ℕ → Result (Option ℕ) TraceFault
cut_at n last = if length last == 0 then Ok None else unless (misfit n last) (Ok (Some n))

abbrev pub ended : Option ℕ → Trace
ended cut = record { seen = []; cut = cut }

-- the flit of a line, if it is one, and what is read behind it
abbrev pub behind : List Seen → Trace → Trace
behind here later = record { seen = here ++ later.seen; cut = later.cut }

-- the lines from line n on
unfoldable pub trace_from : ℕ → List (List ℕ) → Result Trace TraceFault
trace_from n [] = Ok (ended None)
trace_from n (last ∷ []) = cut_at n last >>= λ cut. Ok (ended cut)
trace_from n (line ∷ next ∷ rest) = do
  here ← line_flit n line
  later ← trace_from (n + 1) (next ∷ rest)
  Ok (behind (one_of here) later)

-- what is read of a file, or its first fault
unfoldable pub trace_in : List ℕ → Result Trace TraceFault
trace_in file = if nat_lt 67108864 (length file) then Err TooLarge else trace_from 1 (lines_of file)

-- its flits alone, and some flits with that of line n behind them
abbrev pub seen_of : Result Trace TraceFault → Result (List Seen) TraceFault
seen_of read = read >>= λ trace. Ok trace.seen

abbrev pub with_line : List Seen → ℕ → List ℕ → Result (List Seen) TraceFault
with_line before n line = line_flit n line >>= λ here. Ok (before ++ one_of here)
