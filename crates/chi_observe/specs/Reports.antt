-- What comes of a trace, and what is told of it (docs/OBSERVER.md, "What is printed").
use Rattle.std.specs.Prelude.{◌≡◌, ◌+◌, ◌==◌, ◌&&◌, ℕ, Bool, true, false, List, ◌++◌, Option, Some, None, Result, Ok, Err, IsErrOf, codes, if◌then◌else◌}
use Rattle.std.specs.Fmt.{decimal}
use Rattle.std.specs.Io.KnownBytes.{Appends, Keeps}
use Rattle.chi_script.specs.Devices.{AppendsFront}
use Rattle.chi_script.specs.Files.{lines_of}
use Rattle.chi_script.specs.declared.faults.Fault.{Fault}
use Rattle.chi_script.specs.declared.faults.Fault.TheVariants as faults
use Rattle.chi_trace.specs.Malformed.{malformed_front}
use Rattle.chi_observe.specs.declared.reports.Demands.{Demands}
use Rattle.chi_observe.specs.declared.reports.ObserveOutcome.{ObserveOutcome}
use Rattle.chi_observe.specs.declared.reports.ObserveOutcome.TheVariants as outcomes
use Rattle.chi_observe.specs.declared.steps.WatchOptions.{WatchOptions}
use Rattle.chi_observe.specs.declared.stream.TextStop.{TextStop}
use Rattle.chi_observe.specs.declared.stream.TextStop.TheVariants as texts
use Rattle.chi_observe.specs.declared.stream.TraceStop.{TraceStop}
use Rattle.chi_observe.specs.declared.stream.TraceStop.TheVariants as stops
use Rattle.chi_observe.specs.declared.watch.Counts.{Counts}
use Rattle.chi_observe.specs.Pending.{is_open}
use Rattle.chi_observe.specs.Streams.{trace_after}
use Rattle.chi_observe.specs.Told.{IsAcceptedText, cut_line, is_nothing_judged, is_unjudged}
use Rattle.chi_observe.specs.Watched.{Watched, nothing_watched}

abbrev pub BeginsWith : List ℕ → List ℕ → Type 0
BeginsWith front text = (rest : List ℕ) × (text ≡ front ++ rest)

-- a trace whose flits are all taken: by whether it is to be complete, and whether anything is open at its end
abbrev pub is_nothing_seen : Counts → Bool
is_nothing_seen counts = counts.flits == 0 && counts.accesses == 0

-- what isn't judged comes before what is open
abbrev pub unjudged_outcome : Counts → ObserveOutcome
unjudged_outcome counts = if is_nothing_judged counts then outcomes.Unjudged counts else outcomes.Partly counts

abbrev pub ended_outcome : Demands → Bool → Counts → ObserveOutcome
ended_outcome demands is_open counts =
    if is_nothing_seen counts then outcomes.Nothing else (
    if demands.judged && is_unjudged counts then unjudged_outcome counts else (
    if demands.complete && is_open then outcomes.Incomplete counts else outcomes.Accepted counts))

-- what comes of a trace
abbrev pub outcome_of : Demands → Result Watched TraceStop → ObserveOutcome
outcome_of demands (Ok w) = ended_outcome demands (is_open w) w.counts
outcome_of demands (Err (stops.Malformed fault)) = outcomes.Malformed fault
outcome_of demands (Err (stops.Untaken n)) = outcomes.Faulty n

-- the same of a watch that has taken all lines, or stopped
abbrev pub IsOutcomeOf : Demands → Watched → Option TextStop → ObserveOutcome → Type 0
IsOutcomeOf demands w None outcome = outcome ≡ ended_outcome demands (is_open w) w.counts
IsOutcomeOf demands w (Some (texts.Malformed fault)) outcome = outcome ≡ outcomes.Malformed fault
IsOutcomeOf demands w (Some (texts.Untaken seen fault)) outcome = outcome ≡ outcomes.Faulty seen.line
IsOutcomeOf demands w (Some texts.NoMemory) outcome = ⊥

-- what is told
abbrev pub nothing_text : Counts → List ℕ
nothing_text counts = cut_line counts.cut ++ codes "no flit, load or store is in the trace\n"

abbrev pub numbered : ℕ → List ℕ
numbered n = codes "line " ++ (decimal n ++ codes ": ")

abbrev pub IsReportText : Watched → ObserveOutcome → List ℕ → Type 0
IsReportText w (outcomes.Accepted counts) text = IsAcceptedText w text
IsReportText w (outcomes.Incomplete counts) text = IsAcceptedText w text
IsReportText w (outcomes.Partly counts) text = IsAcceptedText w text
IsReportText w (outcomes.Unjudged counts) text = IsAcceptedText w text
IsReportText w outcomes.Nothing text = text ≡ nothing_text w.counts
IsReportText w (outcomes.Faulty n) text = BeginsWith (numbered n) text
IsReportText w (outcomes.Malformed fault) text = BeginsWith (malformed_front fault) text

abbrev pub IsTextOf : Result Watched TraceStop → ObserveOutcome → List ℕ → Type 0
IsTextOf (Ok w) outcome text = IsReportText w outcome text
IsTextOf (Err (stops.Malformed fault)) outcome text = BeginsWith (malformed_front fault) text
IsTextOf (Err (stops.Untaken n)) outcome text = BeginsWith (numbered n) text

-- the report on a trace: what comes of its lines, taken one after the other from a watch that has seen nothing
pub record IsObserved (options : WatchOptions) (demands : Demands) (file : List ℕ) (outcome : ObserveOutcome) (text : List ℕ) : Type 0 where
  pub judged : outcome ≡ outcome_of demands (trace_after (nothing_watched options) 1 (lines_of file))
  pub told : IsTextOf (trace_after (nothing_watched options) 1 (lines_of file)) outcome text

-- it was written, but where the trace is malformed: then nothing was
abbrev pub IsReportWritten : ObserveOutcome → Option (List ℕ) → Option (List ℕ) → List ℕ → Type 0
IsReportWritten (outcomes.Malformed fault) old new text = Keeps old new
IsReportWritten other old new text = Appends old new text

abbrev pub is_malformed : ObserveOutcome → Bool
is_malformed (outcomes.Malformed fault) = true
is_malformed other = false

-- or a front of it, no more
pub record IsReportFront (options : WatchOptions) (demands : Demands) (file : List ℕ) (old new : Option (List ℕ)) : Type 0 where
  pub outcome : ObserveOutcome
  pub text : List ℕ
  pub report : IsObserved options demands file outcome text
  pub wellformed : is_malformed outcome ≡ false
  pub front : AppendsFront old new text

-- what holds where the writing of a report failed
abbrev pub AtFailedWrite : {A : Type 0} → Result A Fault → Type 0 → Type 0
AtFailedWrite result holds = IsErrOf result faults.Write → holds

-- why there is no report, by the counts of failures of input and output, before and after
abbrev pub IsUnreported : ℕ → ℕ → ℕ → ℕ → Fault → Type 0
IsUnreported read read' wrote wrote' faults.Read = (read' ≡ read + 1) × (wrote' ≡ wrote)
IsUnreported read read' wrote wrote' faults.NoMemory = (read' ≡ read) × (wrote' ≡ wrote)
IsUnreported read read' wrote wrote' faults.Write = (read' ≡ read) × (wrote' ≡ wrote + 1)
IsUnreported read read' wrote wrote' other = ⊥
