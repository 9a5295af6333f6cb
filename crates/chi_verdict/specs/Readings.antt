-- A trace that is resolved as it is read, a line at a time (docs/TRACES.md, "Nodes, ids and credits").
use Rattle.std.specs.Prelude.{◌≡◌, ℕ, ◌+◌, List, [], ◌∷◌, Option, Some, None, Result, Ok, Err}
use Rattle.std.specs.Map.{values_of}
use Rattle.chi_trace.specs.Faults.{TraceFails}
use Rattle.chi_trace.specs.Files.{◌>>=◌}
use Rattle.chi_trace.specs.declared.faults.TraceFault.{TraceFault}
use Rattle.chi_trace.specs.declared.flits.Seen.{Seen}
use Rattle.chi_resolution.specs.Resolution.{IdOutcome, nothing, resolution_of, resolved_more}
use Rattle.chi_resolution.specs.declared.resolution.Options.{Options}
use Rattle.chi_resolution.specs.declared.resolution.Resolution.{Resolution}
use Rattle.chi_verdict.specs.declared.readings.Counts.{Counts}
use Rattle.chi_verdict.specs.declared.readings.Reading.{Reading}
use Rattle.chi_verdict.specs.Counts.{AreCounts, counted}
use Rattle.chi_verdict.specs.Traces.{Trace, cut_at, line_flit}

-- a trace as far as it was read
pub record ReadSoFar : Type 0 where
  pub counts : Counts
  pub outcome : IdOutcome

abbrev pub nothing_read : ReadSoFar
nothing_read = record { counts = record { all = 0; flits = 0; accesses = 0; cut = None }; outcome = record { progress = nothing; fault = None } }

-- with one flit more
abbrev pub read_more : Options → ReadSoFar → Seen → ReadSoFar
read_more options state seen = record { counts = counted seen.flit state.counts; outcome = resolved_more options state.counts.all state.outcome seen }

-- with what a line is: a flit, or nothing
abbrev pub read_if : Options → ReadSoFar → Option Seen → ReadSoFar
read_if options state None = state
read_if options state (Some seen) = read_more options state seen

abbrev pub read_line : Options → ℕ → List ℕ → ReadSoFar → Result ReadSoFar TraceFault
read_line options n line state = line_flit n line >>= λ seen. Ok (read_if options state seen)

-- with what stands behind the last line end: nothing, or a line that is cut
abbrev pub cut_off : Option ℕ → ReadSoFar → ReadSoFar
cut_off cut state = record state { counts = record state.counts { cut = cut } }

abbrev pub last_read : ℕ → List ℕ → ReadSoFar → Result ReadSoFar TraceFault
last_read n last state = cut_at n last >>= λ cut. Ok (cut_off cut state)

-- with the lines from line n on
unfoldable pub lines_read : Options → ℕ → List (List ℕ) → ReadSoFar → Result ReadSoFar TraceFault
lines_read options n [] state = Ok (cut_off None state)
lines_read options n (last ∷ []) state = last_read n last state
lines_read options n (line ∷ next ∷ rest) state = read_line options n line state >>= λ more. lines_read options (n + 1) (next ∷ rest) more

-- a resolution that has this outcome
pub record IsResolvedTo {Y : Type 0} (outcome : IdOutcome) (resolution : Resolution Y) : Type 0 where
  pub flits : resolution.flits.items ≡ outcome.progress.table.flits
  pub fault : resolution.fault ≡ outcome.fault
  pub ids : resolution.ids.items ≡ values_of outcome.progress.table.ids
  pub unfinished : resolution.unfinished.items ≡ values_of outcome.progress.table.unfinished
  pub accounts : resolution.accounts.items ≡ outcome.progress.table.accounts
  pub waiting : resolution.waiting.items ≡ outcome.progress.table.waiting
  pub requesters : resolution.nodes.requesters.items ≡ outcome.progress.requesters

-- what was read so far, as a trace that was read
pub record IsReadingOf {Y : Type 0} (state : ReadSoFar) (reading : Reading Y) : Type 0 where
  pub counts : reading.counts ≡ state.counts
  pub resolved : IsResolvedTo state.outcome reading.resolution

-- a trace that was read has these flits: they are counted, and resolved; and its last line is cut, or it isn't
pub record IsReading {Y : Type 0} (options : Options) (trace : Trace) (reading : Reading Y) : Type 0 where
  pub counts : AreCounts trace.seen reading.counts
  pub cut : reading.counts.cut ≡ trace.cut
  pub resolved : IsResolvedTo (resolution_of options trace.seen) reading.resolution

-- what reading answers: such a trace where the file is one, or its first fault
abbrev pub IsReadAs : {Y : Type 0} → Options → Result (Reading Y) TraceFault → Result Trace TraceFault → Type 0
IsReadAs options (Ok reading) (Ok trace) = IsReading options trace reading
IsReadAs options (Ok reading) (Err fault) = ⊥
IsReadAs options (Err fault) read = TraceFails fault read
