-- What it is for a trace to be explained, and what is told of one that isn't (docs/TRACES.md, "What is printed").
use Rattle.std.specs.Prelude.{◌≡◌, ◌<◌, ◌+◌, ℕ, Bool, true, false, List, [], ◌∷◌, Option, Some, None, Result, Ok, Err, IfSome, IsErrOf, is_some, ◌||◌}
use Rattle.std.specs.Io.KnownBytes.{Appends, Keeps}
use Rattle.std.specs.Map.{values_of}
use Rattle.std.specs.Result.{is_err}
use Rattle.chi_script.specs.Devices.{AppendsFront}
use Rattle.chi_script.specs.declared.faults.Fault.{Fault}
use Rattle.chi_script.specs.declared.faults.Fault.TheVariants as faults
use Rattle.chi_slice.specs.Words.{four_types, two_types, Sizes}
use Rattle.chi_explain.specs.declared.observed.StoreListing.{StoreListing}
use Rattle.chi_trace.specs.declared.faults.TraceFault.{TraceFault}
use Rattle.chi_trace.specs.declared.fields.Address.{Address}
use Rattle.chi_resolution.specs.Tables.{Open}
use Rattle.chi_resolution.specs.Resolution.{resolution_of, IdOutcome}
use Rattle.chi_resolution.specs.declared.beats.OpenData.{OpenData}
use Rattle.chi_resolution.specs.declared.ledger.Types.{Types}
use Rattle.chi_resolution.specs.declared.ledger.Types.TheVariants.{Two, Four, Any}
use Rattle.chi_resolution.specs.declared.lines.Resolved.{Resolved}
use Rattle.chi_resolution.specs.declared.reasons.IdFault.{IdFault}
use Rattle.chi_resolution.specs.declared.resolution.Options.{Options}
use Rattle.chi_verdict.specs.declared.reports.TraceOutcome.{TraceOutcome}
use Rattle.chi_verdict.specs.declared.reports.TraceOutcome.TheVariants.{Explained, Incomplete, Partly, Nothing, Faulty, Malformed}
use Rattle.chi_verdict.specs.declared.reports.TraceStop.{TraceStop}
use Rattle.chi_verdict.specs.declared.reports.TraceStop.TheVariants.{Ids, Flit, Undone}
use Rattle.chi_verdict.specs.declared.reports.TraceTotals.{TraceTotals}
use Rattle.chi_verdict.specs.declared.asked.Asked.{Asked}
use Rattle.chi_verdict.specs.declared.readings.Counts.{Counts}
use Rattle.chi_verdict.specs.Closing.{closed}
use Rattle.chi_verdict.specs.Counts.{AreCounts}
use Rattle.chi_verdict.specs.Ending.{is_anything_open, is_nothing_there, trace_outcome_of}
use Rattle.chi_verdict.specs.Lines.{AreLinesExplained, IsLineFault}
use Rattle.chi_verdict.specs.Outstanding.{AreInOrder, Outstanding, outstanding_behind}
use Rattle.chi_verdict.specs.Texts.{BeginsWith, IsOutcomeText, fault_front}
use Rattle.chi_verdict.specs.Traces.{Trace, trace_in}
use Rattle.chi_verdict.specs.Unseen.{AreFilled}

-- a node of one line with eight agents, whose journal keeps no records and has no end
abbrev pub verdict_sizes : Types → Sizes
verdict_sizes Two = two_types 8 1 1 1 1 0
verdict_sizes Any = two_types 8 1 1 1 1 0
verdict_sizes Four = four_types 8 1 1 (1 ∷ 1 ∷ 1 ∷ 1 ∷ []) 0

-- what a trace is resolved to, as far as its verdict needs it: the items of all lines, the data that lacks words at the
-- end, and the loads and stores that wait
pub record Items : Type 0 where
  pub flits : List Resolved
  pub unfinished : List OpenData
  pub waiting : List Resolved

abbrev pub items_with : List Resolved → List OpenData → List Resolved → Items
items_with flits unfinished waiting = record { flits = flits; unfinished = unfinished; waiting = waiting }

abbrev pub items_of_table : Open → Items
items_of_table table = items_with table.flits (values_of table.unfinished) table.waiting

-- the ids and the ledger allow all the flits, and each line's flits, loads and stores are explained, with some words in
-- place of those that lack, and as if each CompAck that a load or a store waits for came next; so many there are
pub record IsAllExplained (config : Sizes) (stores : StoreListing) (counts : Counts) (fault : Option IdFault) (items : Items) (totals : TraceTotals) : Type 0 where
  pub allowed : fault ≡ None
  pub flits : totals.flits ≡ counts.flits
  pub accesses : totals.accesses ≡ counts.accesses
  pub cut : totals.cut ≡ counts.cut
  pub whole : List Resolved
  pub filled : AreFilled items.unfinished (closed items.flits items.waiting) whole
  pub lines : AreLinesExplained config stores whole totals.actions totals.lines

-- a flit before the first that the ids or the ledger don't allow
abbrev pub IsBefore : ℕ → Option IdFault → Type 0
IsBefore at None = Unit {0}
IsBefore at (Some fault) = at < fault.at

-- what is told as the first of these items that isn't explained: what the ids and the ledger don't allow is told so, unless
-- another one comes before it
abbrev pub IsStopAmong : Sizes → StoreListing → List Resolved → Option IdFault → TraceStop → Type 0
IsStopAmong config stores whole fault (Ids told) = fault ≡ Some told
IsStopAmong config stores whole fault (Flit at cause) = IsBefore at fault × IsLineFault config stores whole at cause
IsStopAmong config stores whole fault (Undone line) = fault ≡ None

-- the same of the items as they are explained
abbrev pub IsStop : Sizes → StoreListing → Items → Option IdFault → TraceStop → Type 0
IsStop config stores items fault stop =
    (whole : List Resolved) × AreFilled items.unfinished (closed items.flits items.waiting) whole × IsStopAmong config stores whole fault stop

-- what comes of so many flits, loads and stores that are resolved so
abbrev pub IsTraceJudged : Sizes → StoreListing → Counts → Option IdFault → Items → Result TraceTotals TraceStop → Type 0
IsTraceJudged config stores counts fault items (Ok totals) = IsAllExplained config stores counts fault items totals
IsTraceJudged config stores counts fault items (Err stop) = IsStop config stores items fault stop

abbrev pub is_table_open : Open → Bool
is_table_open table = is_anything_open (values_of table.ids) (values_of table.unfinished) table.waiting table.accounts

-- a text names flits where it tells a fault, or what is explained of a line
abbrev pub names_flits : Result TraceTotals TraceStop → Option Address → Bool
names_flits judged only = is_err judged || is_some only

-- what is asked of a trace that was judged so
pub record IsVerdictOf (options : Options) (asked : Asked) (trace : Trace) (resolved : IdOutcome) (outcome : TraceOutcome) : Type 0 where
  pub counts : Counts
  pub counted : AreCounts trace.seen counts
  pub cut : counts.cut ≡ trace.cut
  pub judged : Result TraceTotals TraceStop
  pub holds : IsTraceJudged (verdict_sizes options.types) options.stores counts resolved.fault (items_of_table resolved.progress.table) judged
  pub told : outcome ≡ trace_outcome_of asked (is_table_open resolved.progress.table) (is_nothing_there asked.only trace.seen resolved.progress.table.flits resolved.progress.table.waiting) judged

-- what comes of a trace, and is told of it
pub record IsFlitsReport (options : Options) (asked : Asked) (trace : Trace) (outcome : TraceOutcome) (text : List ℕ) : Type 0 where
  pub verdict : IsVerdictOf options asked trace (resolution_of options trace.seen) outcome
  pub these : Outstanding
  pub ordered : AreInOrder (outstanding_behind (resolution_of options trace.seen).progress) these
  pub told : IsOutcomeText trace.seen trace.cut these asked.only outcome text

-- what comes of a file, by what is read of it
abbrev pub IsReportOn : Options → Asked → Result Trace TraceFault → TraceOutcome → List ℕ → Type 0
IsReportOn options asked (Ok trace) outcome text = IsFlitsReport options asked trace outcome text
IsReportOn options asked (Err fault) outcome text = (outcome ≡ Malformed fault) × BeginsWith (fault_front fault) text

abbrev pub IsReport : Options → Asked → List ℕ → TraceOutcome → List ℕ → Type 0
IsReport options asked file outcome text = IsReportOn options asked (trace_in file) outcome text

-- a report was written, but where the file is malformed: then nothing was
abbrev pub IsReportWritten : TraceOutcome → Option (List ℕ) → Option (List ℕ) → List ℕ → Type 0
IsReportWritten (Explained totals) old new text = Appends old new text
IsReportWritten (Incomplete totals) old new text = Appends old new text
IsReportWritten (Partly totals) old new text = Appends old new text
IsReportWritten Nothing old new text = Appends old new text
IsReportWritten (Faulty stop) old new text = Appends old new text
IsReportWritten (Malformed fault) old new text = Keeps old new

-- of a report on a file that isn't malformed a front was written, no more
abbrev pub is_malformed : TraceOutcome → Bool
is_malformed (Malformed fault) = true
is_malformed other = false

pub record IsReportFront (options : Options) (asked : Asked) (file : List ℕ) (old new : Option (List ℕ)) : Type 0 where
  pub outcome : TraceOutcome
  pub text : List ℕ
  pub report : IsReport options asked file outcome text
  pub wellformed : is_malformed outcome ≡ false
  pub front : AppendsFront old new text

-- what holds where the writing of a report failed
abbrev pub AtFailedWrite : {A : Type 0} → Result A Fault → Type 0 → Type 0
AtFailedWrite result holds = IsErrOf result faults.Write → holds

-- why there is no report, by the counts of failures of input and output, before and after
abbrev pub IsUnreported : ℕ → ℕ → ℕ → ℕ → Fault → Type 0
IsUnreported read read' wrote wrote' faults.Read = (read' ≡ read + 1) × (wrote' ≡ wrote)
IsUnreported read read' wrote wrote' faults.NoMemory = (read' ≡ read) × (wrote' ≡ wrote)
IsUnreported read read' wrote wrote' faults.Write = (read' ≡ read) × (wrote' ≡ wrote + 1)
IsUnreported read read' wrote wrote' (faults.BadHeader line) = ⊥
IsUnreported read read' wrote wrote' (faults.BadCommand line) = ⊥
IsUnreported read read' wrote wrote' (faults.MissingNewline line) = ⊥
IsUnreported read read' wrote wrote' faults.TooLarge = ⊥

-- where the file is malformed nothing is written
abbrev pub KeepsUnlessWritten : Option (List ℕ) → Option (List ℕ) → Option (List ℕ) → Type 0
KeepsUnlessWritten input old new = IfSome input (λ file. (fault : TraceFault) → trace_in file ≡ Err fault → Keeps old new)
