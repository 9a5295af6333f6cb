-- What is told of items, out of what is told of their lines.
use Rattle.std.proofs.Common.{◌≡◌, ℕ, ◌+◌, List, Option, Some, None, Result, Ok, Err, take, refl, sym, subst, ap, ◌∙◌}
use Rattle.std.specs.Prelude.{IfErr, IfOk}
use Rattle.std.proofs.lemmas.List.{take-map}
use Rattle.std.specs.List.{slice_get}
use Rattle.chi_slice.specs.Words.{Sizes}
use Rattle.chi_explain.specs.declared.observed.Observed.{Observed}
use Rattle.chi_explain.specs.declared.observed.StoreListing.{StoreListing}
use Rattle.chi_monitor.specs.Places.{IsToldFault, IsUnexplainable}
use Rattle.chi_monitor.specs.declared.explained.NoExplanation.TheVariants as told
use Rattle.chi_monitor.specs.declared.faults.LineFault.{LineFault}
use Rattle.chi_resolution.specs.declared.lines.CacheLine.{CacheLine}
use Rattle.chi_resolution.specs.declared.lines.Resolved.{Resolved}
use Rattle.chi_resolution.specs.declared.reasons.IdFault.{IdFault}
use Rattle.chi_verdict.specs.declared.readings.Counts.{Counts}
use Rattle.chi_verdict.specs.declared.reports.TraceStop.{TraceStop}
use Rattle.chi_verdict.specs.declared.reports.TraceTotals.{TraceTotals}
use Rattle.chi_verdict.specs.Closing.{closed}
use Rattle.chi_verdict.specs.Lines.{AreLinesExplained, IsLineFault, IsNumbered, items_of, said_by}
use Rattle.chi_verdict.specs.Unseen.{AreFilled}
use Rattle.chi_verdict.specs.Verdicts.{IsStopAmong, IsTraceJudged, Items}

pub line_fault : (config : Sizes) (stores : StoreListing) (items : List Resolved) (line : CacheLine) (own : List Resolved) (seen : List Observed) (number : ℕ) (fault : LineFault) (item : Resolved) → own ≡ items_of line items → seen ≡ said_by own
    → IsToldFault config stores seen (told.Fault number fault) → slice_get own number ≡ Some item → IsLineFault config stores items item.at fault
line_fault config stores items line own seen number fault item same says is there = record {
  line = line;
  place = number;
  item = subst (IsNumbered item.at) (sym there ∙ ap (λ (l : List Resolved). slice_get l number) same) refl;
  none = λ settled. subst (IsUnexplainable config stores) (ap (take (number + 1)) says ∙ (take-map (λ (r : Resolved). r.flit) (number + 1) own ∙ ap (λ (l : List Resolved). said_by (take (number + 1) l)) same)) (is.1 settled);
}

-- what comes of items that are explained
pub judged_total : (config : Sizes) (stores : StoreListing) (counts : Counts) (fault : Option IdFault) (items : Items) (whole : List Resolved) (actions lines : ℕ) (result : Result TraceTotals TraceStop) → AreFilled items.unfinished (closed items.flits items.waiting) whole
    → AreLinesExplained config stores whole actions lines → IfOk result (λ total. fault ≡ None) → IfOk result (λ total. total.flits ≡ counts.flits) → IfOk result (λ total. total.accesses ≡ counts.accesses) → IfOk result (λ total. total.cut ≡ counts.cut) → IfOk result (λ total. total.actions ≡ actions)
    → IfOk result (λ total. total.lines ≡ lines) → IfErr result (IsStopAmong config stores whole fault) → IsTraceJudged config stores counts fault items result
judged_total config stores counts fault items whole actions lines (Ok total) filled explained allowed flits accesses cut same_actions same_lines err = record {
  allowed = allowed;
  flits = flits;
  accesses = accesses;
  cut = cut;
  whole = whole;
  filled = filled;
  lines = subst (λ (n : ℕ). AreLinesExplained config stores whole total.actions n) (sym same_lines) (subst (λ (n : ℕ). AreLinesExplained config stores whole n lines) (sym same_actions) explained);
}
judged_total config stores counts fault items whole actions lines (Err stop) filled explained allowed flits accesses cut same_actions same_lines err = (whole, filled, err)
