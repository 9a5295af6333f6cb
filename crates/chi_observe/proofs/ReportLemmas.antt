-- What observe leaves, from what its parts leave.
use Rattle.std.proofs.Common.{◌≡◌, ◌≢◌, ◌+◌, ℕ, false, List, Option, Some, None, Result, Ok, Err, IfErr, IfOk, IfSome, OnErr, OnOk, subst, sym, ap, ◌∙◌}
use Rattle.chi_script.specs.Devices.{AppendsFront}
use Rattle.chi_script.specs.Files.{lines_of}
use Rattle.chi_script.specs.declared.faults.Fault.{Fault}
use Rattle.chi_script.specs.declared.faults.Fault.TheVariants as faults
use Rattle.chi_observe.specs.declared.reports.Demands.{Demands}
use Rattle.chi_observe.specs.declared.reports.ObserveOutcome.{ObserveOutcome}
use Rattle.chi_observe.specs.declared.steps.WatchOptions.{WatchOptions}
use Rattle.chi_observe.specs.declared.stream.TextStop.{TextStop}
use Rattle.chi_observe.specs.declared.stream.TextStop.TheVariants as texts
use Rattle.chi_observe.specs.declared.stream.TraceStop.{TraceStop}
use Rattle.chi_observe.specs.Reports.{AtFailedWrite, IsObserved, IsOutcomeOf, IsReportFront, IsReportText, IsTextOf, IsUnreported, is_malformed, outcome_of}
use Rattle.chi_observe.specs.Streams.{IsTraceWatched, trace_after}
use Rattle.chi_observe.specs.Watched.{Watched, nothing_watched}

-- what comes of a trace is what comes of its lines
judged : (demands : Demands) (start new : Watched) (file : List ℕ) (stop : Option TextStop) (outcome : ObserveOutcome) → IsTraceWatched start new file stop → IsOutcomeOf demands new stop outcome → outcome ≡ outcome_of demands (trace_after start 1 (lines_of file))
judged demands start new file None outcome e is = is ∙ sym (ap (outcome_of demands) e)
judged demands start new file (Some (texts.Malformed fault)) outcome e is = is ∙ sym (ap (outcome_of demands) e)
judged demands start new file (Some (texts.Untaken seen fault)) outcome e is = is ∙ sym (ap (outcome_of demands) e.0)
judged demands start new file (Some texts.NoMemory) outcome e is = absurd is

-- and what is told is told of what comes of them
told_of : (demands : Demands) (start new : Watched) (file : List ℕ) (stop : Option TextStop) (outcome : ObserveOutcome) (text : List ℕ) → IsTraceWatched start new file stop → IsOutcomeOf demands new stop outcome → IsReportText new outcome text → IsTextOf (trace_after start 1 (lines_of file)) outcome text
told_of demands start new file None outcome text e is told = subst (λ (r : Result Watched TraceStop). IsTextOf r outcome text) (sym e) told
told_of demands start new file (Some (texts.Malformed fault)) outcome text e is told =
    subst (λ (r : Result Watched TraceStop). IsTextOf r outcome text) (sym e) (subst (λ (o : ObserveOutcome). IsReportText new o text) is told)
told_of demands start new file (Some (texts.Untaken seen fault)) outcome text e is told =
    subst (λ (r : Result Watched TraceStop). IsTextOf r outcome text) (sym e.0) (subst (λ (o : ObserveOutcome). IsReportText new o text) is told)
told_of demands start new file (Some texts.NoMemory) outcome text e is told = absurd is

pub observed_of : (options : WatchOptions) (demands : Demands) (start new : Watched) (input : Option (List ℕ)) (stop : Option TextStop) (outcome : ObserveOutcome) (text : List ℕ) → start ≡ nothing_watched options
    → IfSome input (λ file. IsTraceWatched start new file stop) → IsOutcomeOf demands new stop outcome → IsReportText new outcome text → IfSome input (λ file. IsObserved options demands file outcome text)
observed_of options demands start new None stop outcome text same watched is told = tt
observed_of options demands start new (Some file) stop outcome text same watched is told = record {
  judged = judged demands start new file stop outcome watched is ∙ ap (λ (w : Watched). outcome_of demands (trace_after w 1 (lines_of file))) same;
  told = subst (λ (w : Watched). IsTextOf (trace_after w 1 (lines_of file)) outcome text) same (told_of demands start new file stop outcome text watched is told);
}

-- the report that is given is the one that was made
pub given : {R E : Type 0} (P : R → Type 0) (report : R) (r : Result R E) → P report → IfOk r (λ x. x ≡ report) → IfOk r P
given P report (Ok x) is same = subst P (sym same) is
given P report (Err e) is same = tt

pub given_ok : {R E : Type 0} (P : R → Type 0) (report : R) (r : Result R E) → OnOk r (P report) → IfOk r (λ x. x ≡ report) → IfOk r P
given_ok P report (Ok x) is same = subst P (sym same) is
given_ok P report (Err e) is same = tt

pub always : {R E : Type 0} (P : Type 0) (r : Result R E) → P → OnOk r P
always P (Ok x) is = is
always P (Err e) is = tt

-- writing failed
pub unwritten : {R : Type 0} (read read' wrote wrote' : ℕ) (r : Result R Fault) → read' ≡ read → IfErr r (λ fault. fault ≡ faults.Write) → OnErr r (wrote' ≡ wrote + 1) → IfErr r (IsUnreported read read' wrote wrote')
unwritten read read' wrote wrote' (Ok x) same is counted = tt
unwritten read read' wrote wrote' (Err fault) same is counted = subst (λ (f : Fault). IsUnreported read read' wrote wrote' f) (sym is) (same, counted)

pub kept_otherwise : {R : Type 0} (P : Type 0) (r : Result R Fault) → IfErr r (λ fault. fault ≡ faults.Write) → IfErr r (λ fault. fault ≢ faults.Write → P)
kept_otherwise P (Ok x) is = tt
kept_otherwise P (Err fault) is = λ other. absurd (other is)

pub front_written : {R : Type 0} (options : WatchOptions) (demands : Demands) (left old new : Option (List ℕ)) (outcome : ObserveOutcome) (text : List ℕ) (r : Result R Fault) → IfSome left (λ file. IsObserved options demands file outcome text)
    → OnErr r (is_malformed outcome ≡ false) → OnErr r (AppendsFront old new text) → AtFailedWrite r (IfSome left (λ file. IsReportFront options demands file old new))
front_written options demands left old new outcome text (Ok x) told wellformed front = λ e. absurd (cc e)
front_written options demands None old new outcome text (Err fault) told wellformed front = λ e. tt
front_written options demands (Some file) old new outcome text (Err fault) told wellformed front = λ e. record { outcome = outcome; text = text; report = told; wellformed = wellformed; front = front }
