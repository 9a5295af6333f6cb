-- The lines of a trace, taken one after the other, and a trace that comes in pieces (docs/OBSERVER.md, "A trace of many
-- lines").
use Rattle.std.specs.Prelude.{◌≡◌, ℕ, ◌+◌, ◌<◌, ◌==◌, List, [], ◌∷◌, ◌++◌, Option, Some, None, Result, Ok, Err, IfSome, if◌then◌else◌, length}
use Rattle.chi_script.specs.Files.{lines_of}
use Rattle.chi_script.specs.declared.faults.Fault.{Fault}
use Rattle.chi_trace.specs.AnyFlits.{any_flit_at}
use Rattle.chi_trace.specs.declared.faults.TraceFault.{TraceFault}
use Rattle.chi_trace.specs.declared.forms.TraceForm.{TraceForm}
use Rattle.chi_trace.specs.declared.faults.TraceFault.TheVariants.{Gzip, LongLine}
use Rattle.chi_trace.specs.declared.any_flits.AnySeen.{AnySeen}
use Rattle.chi_observe.specs.declared.stream.Left.{Left}
use Rattle.chi_observe.specs.declared.stream.Stream.{Stream}
use Rattle.chi_observe.specs.declared.stream.TextStop.{TextStop}
use Rattle.chi_observe.specs.declared.stream.TextStop.TheVariants as texts
use Rattle.chi_observe.specs.declared.stream.TraceStop.{TraceStop}
use Rattle.chi_observe.specs.declared.stream.TraceStop.TheVariants.{Malformed, Untaken}
use Rattle.chi_observe.specs.Seen.{event_of}
use Rattle.chi_observe.specs.Watched.{IsFault, Watched, step}

infixl 10 ◌>>=◌
abbrev pub ◌>>=◌ : {A B : Type 0} → Result A TraceStop → (A → Result B TraceStop) → Result B TraceStop
(Ok x) >>= next = next x
(Err stop) >>= next = Err stop

-- what follows a line: its flit is taken, if it is one
abbrev pub taken_or : ℕ → Option Watched → Result Watched TraceStop
taken_or n None = Err (Untaken n)
taken_or n (Some w) = Ok w

abbrev pub seen_after : Watched → Option AnySeen → Result Watched TraceStop
seen_after w None = Ok w
seen_after w (Some seen) = taken_or seen.line (step w (event_of seen))

abbrev pub read_after : Watched → Result (Option AnySeen) TraceFault → Result Watched TraceStop
read_after w (Ok seen) = seen_after w seen
read_after w (Err fault) = Err (Malformed fault)

abbrev pub text_after : Watched → ℕ → List ℕ → Result Watched TraceStop
text_after w n line = read_after w (any_flit_at w.options.form n line)

-- what follows a last line that no line end follows: it isn't judged, and is told; but a compressed file, and a line that is
-- too long, are none of a trace
abbrev pub cut_at : Watched → ℕ → Watched
cut_at w n = record w { counts = record w.counts { cut = Some n } }

abbrev pub cut_by : Watched → ℕ → Result (Option AnySeen) TraceFault → Result Watched TraceStop
cut_by w n (Err Gzip) = Err (Malformed Gzip)
cut_by w n (Err (LongLine m)) = Err (Malformed (LongLine m))
cut_by w n other = Ok (cut_at w n)

abbrev pub last_after : Watched → ℕ → List ℕ → Result Watched TraceStop
last_after w n last = if length last == 0 then Ok w else cut_by w n (any_flit_at w.options.form n last)

-- what follows the lines from line n on, or the first that stops it
unfoldable pub trace_after : Watched → ℕ → List (List ℕ) → Result Watched TraceStop
trace_after w n [] = Ok w
trace_after w n (last ∷ []) = last_after w n last
trace_after w n (line ∷ next ∷ rest) = text_after w n line >>= λ w'. trace_after w' (n + 1) (next ∷ rest)

-- what stops it; the watch is as it was before that line
abbrev pub IsStopAt : Watched → TextStop → Result Watched TraceStop → Type 0
IsStopAt w (texts.Malformed fault) r = r ≡ Err (Malformed fault)
IsStopAt w (texts.Untaken seen fault) r = (r ≡ Err (Untaken seen.line)) × IsFault w (event_of seen) fault
IsStopAt w texts.NoMemory r = Unit {0}

-- a flit, a line, and lines, whatever follows them
abbrev pub IsSeenTaken : {A : Type 0} → Watched → Watched → AnySeen → Result A TextStop → Type 0
IsSeenTaken old new seen (Ok done) = seen_after old (Some seen) ≡ Ok new
IsSeenTaken old new seen (Err stop) = IsStopAt new stop (seen_after old (Some seen))

abbrev pub IsTextTaken : {A : Type 0} → Watched → Watched → ℕ → List ℕ → Result A TextStop → Type 0
IsTextTaken old new n line (Ok done) = text_after old n line ≡ Ok new
IsTextTaken old new n line (Err stop) = IsStopAt new stop (text_after old n line)

pub record GoesOn (old : Watched) (n : ℕ) (bytes : List ℕ) (new : Watched) (n' : ℕ) (rest : List ℕ) : Type 0 where
  pub same : (more : List ℕ) → trace_after old n (lines_of (bytes ++ more)) ≡ trace_after new n' (lines_of (rest ++ more))
  pub part : lines_of rest ≡ rest ∷ []

abbrev pub AreLinesTaken : Watched → Watched → ℕ → List ℕ → Result Left TextStop → Type 0
AreLinesTaken old new n bytes (Ok left) = GoesOn old n bytes new left.number left.rest.now
AreLinesTaken old new n bytes (Err stop) = (more : List ℕ) → IsStopAt new stop (trace_after old n (lines_of (bytes ++ more)))

-- so much of a line is too long, whatever follows
abbrev pub IsOverlong : TraceForm → ℕ → List ℕ → TextStop → Type 0
IsOverlong form n line (texts.Malformed fault) = (any_flit_at form n line ≡ Err fault) × (4096 < length line)
IsOverlong form n line other = ⊥

-- the next piece
abbrev pub IsPieceTaken : {A : Type 0} → Watched → Watched → Stream A → List ℕ → Result (Stream A) TextStop → Type 0
IsPieceTaken old new stream piece (Ok s) = GoesOn old stream.number (stream.held.items ++ piece) new s.number s.held.items
IsPieceTaken old new stream piece (Err stop) = (more : List ℕ) → IsStopAt new stop (trace_after old stream.number (lines_of (stream.held.items ++ piece ++ more)))

-- what stands behind the last line end
abbrev pub IsEndTaken : Watched → Watched → List ℕ → ℕ → Option TextStop → Type 0
IsEndTaken old new held n None = last_after old n held ≡ Ok new
IsEndTaken old new held n (Some stop) = IsStopAt new stop (last_after old n held)

-- a whole trace, in whatever pieces it was read
abbrev pub IsTraceWatched : Watched → Watched → List ℕ → Option TextStop → Type 0
IsTraceWatched old new file None = trace_after old 1 (lines_of file) ≡ Ok new
IsTraceWatched old new file (Some stop) = IsStopAt new stop (trace_after old 1 (lines_of file))

abbrev pub IsInputWatched : Option (List ℕ) → Watched → Watched → Result (Option TextStop) Fault → Type 0
IsInputWatched input old new (Ok stop) = IfSome input (λ file. IsTraceWatched old new file stop)
IsInputWatched input old new (Err fault) = Unit {0}
