-- What is said of a report, from what its parts say.
use Rattle.std.proofs.Common.{◌≡◌, ◌≢◌, ◌∙◌, ◌<◌, ℕ, Bool, true, false, List, length, nat_lt, take, Option, Some, None, Result, Ok, Err, IfOk, IfSome, refl, subst, sym, ap, arith, if◌then◌else◌, is_some, ◌&&◌}
use Rattle.std.specs.Map.{values_of}
use Rattle.std.proofs.lemmas.Bool.{lt-ltb, ltb-false, ltb-true}
use Rattle.std.proofs.lemmas.List.{length-take, take_all}
use Rattle.chi_slice.specs.Words.{Sizes}
use Rattle.chi_explain.specs.declared.observed.StoreListing.{StoreListing}
use Rattle.chi_trace.specs.Faults.{TraceFails}
use Rattle.chi_trace.specs.declared.faults.TraceFault.{TraceFault}
use Rattle.chi_trace.specs.declared.faults.TraceFault.TheVariants.{NoMemory, TooLarge, Gzip, LongLine, MissingNewline, FewWords, BadWord}
use Rattle.chi_trace.specs.declared.fields.Address.{Address}
use Rattle.chi_trace.specs.declared.flits.Seen.{Seen}
use Rattle.chi_resolution.specs.Resolution.{IdOutcome, resolution_of}
use Rattle.chi_resolution.specs.declared.beats.OpenData.{OpenData}
use Rattle.chi_resolution.specs.declared.ids.OpenId.{OpenId}
use Rattle.chi_resolution.specs.declared.ledger.CreditLedger.{CreditLedger}
use Rattle.chi_resolution.specs.declared.lines.Resolved.{Resolved}
use Rattle.chi_resolution.specs.declared.reasons.IdFault.{IdFault}
use Rattle.chi_resolution.specs.declared.resolution.Options.{Options}
use Rattle.chi_resolution.specs.declared.resolution.Resolution.{Resolution}
use Rattle.chi_verdict.specs.declared.asked.Asked.{Asked}
use Rattle.chi_verdict.specs.declared.asked.Ending.{Ending}
use Rattle.chi_verdict.specs.declared.asked.Ending.TheVariants.{Any, Complete}
use Rattle.chi_verdict.specs.declared.readings.Counts.{Counts}
use Rattle.chi_verdict.specs.declared.readings.Reading.{Reading}
use Rattle.chi_verdict.specs.declared.reports.TraceOutcome.{TraceOutcome}
use Rattle.chi_verdict.specs.declared.reports.TraceOutcome.TheVariants.{Malformed, Partly}
use Rattle.chi_verdict.specs.declared.reports.TraceStop.{TraceStop}
use Rattle.chi_verdict.specs.declared.reports.TraceTotals.{TraceTotals}
use Rattle.chi_verdict.specs.Ending.{explained_outcome, is_anything_open, is_nothing_of, is_nothing_there, trace_outcome_of, whole_outcome}
use Rattle.chi_verdict.specs.Counts.{AreCounts}
use Rattle.chi_verdict.specs.Outstanding.{AreInOrder, Outstanding, outstanding_behind, outstanding_in}
use Rattle.chi_verdict.specs.Readings.{IsReadAs, IsReading, IsResolvedTo}
use Rattle.chi_verdict.specs.Texts.{BeginsWith, IsOutcomeText, fault_front}
use Rattle.chi_verdict.specs.Traces.{Trace, seen_of, trace_in}
use Rattle.chi_verdict.specs.Verdicts.{IsFlitsReport, IsTraceJudged, IsReport, IsReportOn, Items, is_table_open, items_of_table, items_with, names_flits, verdict_sizes}

-- the same fact in other words
pub carried : {X E : Type 0} (P Q : X → Type 0) (r : Result X E) → ((x : X) → P x → Q x) → IfOk r P → IfOk r Q
carried P Q (Ok x) f is = f x is
carried P Q (Err e) f is = tt

too_large : (b : Bool) (read : Result Trace TraceFault) → b ≡ true → (if b then Err TooLarge else read) ≡ Err TooLarge
too_large true read e = refl
too_large false read e = absurd (cc e)

-- what is read of a file tells what the file is
whole_by : (file : List ℕ) (b : Bool) → nat_lt 67108864 (length file) ≡ b → trace_in (take 67108865 file) ≡ trace_in file
unfolding trace_in
whole_by file true is =
    let long : 67108864 < length file = ltb-true 67108864 (length file) is in
    too_large _ _ (lt-ltb 67108864 (length (take 67108865 file)) (omega (arith, length-take 67108865 file))) ∙ sym (too_large _ _ is)
whole_by file false is = ap trace_in (take_all 67108865 file (omega (arith, ltb-false 67108864 (length file) is)))

pub whole : (file : List ℕ) → trace_in (take 67108865 file) ≡ trace_in file
whole file = whole_by file (nat_lt 67108864 (length file)) refl

pub of_whole : (options : Options) (asked : Asked) (left : Option (List ℕ)) (bytes : List ℕ) (outcome : TraceOutcome) (text : List ℕ) → IfSome left (λ file. bytes ≡ take 67108865 file) → IsReport options asked bytes outcome text → IfSome left (λ file. IsReport options asked file outcome text)
of_whole options asked None bytes outcome text same is = tt
of_whole options asked (Some file) bytes outcome text same is = subst (λ (read : Result Trace TraceFault). IsReportOn options asked read outcome text) (ap trace_in same ∙ whole file) is

-- a fault that reading answers is that of the grammar
failed : (fault : TraceFault) (read : Result Trace TraceFault) → TraceFails fault read → fault ≢ NoMemory → read ≡ Err fault
failed NoMemory read fails other = absurd (other refl)
failed TooLarge read fails other = fails
failed Gzip read fails other = fails
failed (LongLine line) read fails other = fails
failed (MissingNewline line) read fails other = fails
failed (FewWords line) read fails other = fails
failed (BadWord line column) read fails other = fails

pub malformed_report : {R E : Type 0} (options : Options) (asked : Asked) (read : Result Trace TraceFault) (fault : TraceFault) (outcome : R → TraceOutcome) (text : R → List ℕ) (r : Result R E) → TraceFails fault read
    → IfOk r (λ x. outcome x ≡ Malformed fault) → IfOk r (λ x. fault ≢ NoMemory) → IfOk r (λ x. BeginsWith (fault_front fault) (text x)) → IfOk r (λ x. IsReportOn options asked read (outcome x) (text x))
malformed_report options asked read fault outcome text (Ok x) fails is other said = subst (λ (of : Result Trace TraceFault). IsReportOn options asked of (outcome x) (text x)) (sym (failed fault read fails other)) (is, said)
malformed_report options asked read fault outcome text (Err e) fails is other said = tt

-- what was judged is the trace's resolution
moved : (config config' : Sizes) (stores : StoreListing) (counts : Counts) (fault fault' : Option IdFault) (items items' : Items) (outcome : Result TraceTotals TraceStop) → config ≡ config' → fault ≡ fault' → items ≡ items'
    → IsTraceJudged config stores counts fault items outcome → IsTraceJudged config' stores counts fault' items' outcome
moved config config' stores counts fault fault' items items' outcome size same_fault same is =
    subst (λ (i : Items). IsTraceJudged config' stores counts fault' i outcome) same
    (subst (λ (f : Option IdFault). IsTraceJudged config' stores counts f items outcome) same_fault
    (subst (λ (c : Sizes). IsTraceJudged c stores counts fault items outcome) size is))

same_items : (flits flits' : List Resolved) (unfinished unfinished' : List OpenData) (waiting waiting' : List Resolved) → flits ≡ flits' → unfinished ≡ unfinished' → waiting ≡ waiting' → items_with flits unfinished waiting ≡ items_with flits' unfinished' waiting'
same_items flits flits' unfinished unfinished' waiting waiting' same same_unfinished same_waiting = λ i. items_with (same i) (same_unfinished i) (same_waiting i)

same_open : (ids ids' : List OpenId) (unfinished unfinished' : List OpenData) (waiting waiting' : List Resolved) (accounts accounts' : List CreditLedger) → ids ≡ ids' → unfinished ≡ unfinished' → waiting ≡ waiting' → accounts ≡ accounts'
    → is_anything_open ids unfinished waiting accounts ≡ is_anything_open ids' unfinished' waiting' accounts'
same_open ids ids' unfinished unfinished' waiting waiting' accounts accounts' a b c d = λ i. is_anything_open (a i) (b i) (c i) (d i)

same_nothing : (only : Option Address) (seen : List Seen) (flits flits' waiting waiting' : List Resolved) → flits ≡ flits' → waiting ≡ waiting' → is_nothing_there only seen flits waiting ≡ is_nothing_there only seen flits' waiting'
same_nothing only seen flits flits' waiting waiting' a b = λ i. is_nothing_there only seen (a i) (b i)

same_outcome : (asked : Asked) (is_open is_open' nothing nothing' : Bool) (judged : Result TraceTotals TraceStop) → is_open ≡ is_open' → nothing ≡ nothing' → trace_outcome_of asked is_open nothing judged ≡ trace_outcome_of asked is_open' nothing' judged
same_outcome asked is_open is_open' nothing nothing' judged a b = λ i. trace_outcome_of asked (a i) (b i) judged

-- what is outstanding in a resolution
pub resolved_outstanding : {Y : Type 0} (outcome : IdOutcome) (resolution : Resolution Y) → IsResolvedTo outcome resolution → outstanding_in resolution ≡ outstanding_behind outcome.progress
resolved_outstanding outcome resolution is = λ i. record { ids = is.ids i; unfinished = is.unfinished i; requesters = is.requesters i; waiting = is.waiting i; accounts = is.accounts i }

-- a text that names no flits is that of any
unnamed_text : (asked : Asked) (seen named : List Seen) (cut : Option ℕ) (these : Outstanding) (is_open nothing : Bool) (totals : TraceTotals) (text : List ℕ) → IsOutcomeText named cut these asked.only (explained_outcome asked is_open nothing totals) text
    → IsOutcomeText seen cut these asked.only (explained_outcome asked is_open nothing totals) text
unnamed_text asked seen named cut these is_open nothing totals text told = by_nothing nothing told
  where
    by_cut : (b : Bool) (ending : Ending) (is_open : Bool) → IsOutcomeText named cut these asked.only (if b then Partly totals else whole_outcome ending is_open totals) text → IsOutcomeText seen cut these asked.only (if b then Partly totals else whole_outcome ending is_open totals) text
    by_cut true ending is_open told = told
    by_cut false Any is_open told = told
    by_cut false Complete true told = told
    by_cut false Complete false told = told

    by_nothing : (nothing : Bool) → IsOutcomeText named cut these asked.only (explained_outcome asked is_open nothing totals) text → IsOutcomeText seen cut these asked.only (explained_outcome asked is_open nothing totals) text
    by_nothing true told = told
    by_nothing false told = by_cut (asked.judged && is_some totals.cut) asked.ending is_open told

judged_text : (asked : Asked) (seen named : List Seen) (cut : Option ℕ) (these : Outstanding) (is_open nothing : Bool) (judged : Result TraceTotals TraceStop) (text : List ℕ) → (names_flits judged asked.only ≡ true → named ≡ seen)
    → IsOutcomeText named cut these asked.only (trace_outcome_of asked is_open nothing judged) text → IsOutcomeText seen cut these asked.only (trace_outcome_of asked is_open nothing judged) text
judged_text asked seen named cut these is_open nothing (Ok totals) text same told = unnamed_text asked seen named cut these is_open nothing totals text told
judged_text asked seen named cut these is_open nothing (Err stop) text same told = subst (λ (s : List Seen). IsOutcomeText s cut these asked.only (trace_outcome_of asked is_open nothing (Err stop)) text) (same refl) told

text_of : (asked : Asked) (seen named : List Seen) (cut cut' : Option ℕ) (these : Outstanding) (is_open nothing : Bool) (judged : Result TraceTotals TraceStop) (outcome : TraceOutcome) (text : List ℕ) → cut ≡ cut' → outcome ≡ trace_outcome_of asked is_open nothing judged
    → (names_flits judged asked.only ≡ true → named ≡ seen) → IsOutcomeText named cut these asked.only outcome text → IsOutcomeText seen cut' these asked.only outcome text
text_of asked seen named cut cut' these is_open nothing judged outcome text same_cut is same told =
    subst (λ (c : Option ℕ). IsOutcomeText seen c these asked.only outcome text) same_cut
    (subst (λ (o : TraceOutcome). IsOutcomeText seen cut these asked.only o text) (sym is) (judged_text asked seen named cut these is_open nothing judged text same (subst (λ (o : TraceOutcome). IsOutcomeText named cut these asked.only o text) is told)))

pub flits_report : {R E : Type 0} (options : Options) (asked : Asked) (trace : Trace) (named : List Seen) (counts : Counts) (judged : Result TraceTotals TraceStop) (config : Sizes) (fault : Option IdFault) (items : List Resolved) (unfinished : List OpenData) (waiting : List Resolved) (ids : List OpenId) (accounts : List CreditLedger) (these : Outstanding) (is_open nothing : Bool) (outcome : R → TraceOutcome) (text : R → List ℕ) (r : Result R E)
    → config ≡ verdict_sizes options.types → fault ≡ (resolution_of options trace.seen).fault → items ≡ (resolution_of options trace.seen).progress.table.flits → unfinished ≡ values_of (resolution_of options trace.seen).progress.table.unfinished → waiting ≡ (resolution_of options trace.seen).progress.table.waiting
    → ids ≡ values_of (resolution_of options trace.seen).progress.table.ids → accounts ≡ (resolution_of options trace.seen).progress.table.accounts → is_open ≡ is_anything_open ids unfinished waiting accounts → nothing ≡ is_nothing_of asked.only counts.all items waiting → AreCounts trace.seen counts → counts.cut ≡ trace.cut → AreInOrder (outstanding_behind (resolution_of options trace.seen).progress) these
    → (names_flits judged asked.only ≡ true → named ≡ trace.seen) → IsTraceJudged config options.stores counts fault (items_with items unfinished waiting) judged → IfOk r (λ x. outcome x ≡ trace_outcome_of asked is_open nothing judged) → IfOk r (λ x. IsOutcomeText named counts.cut these asked.only (outcome x) (text x)) → IfOk r (λ x. IsFlitsReport options asked trace (outcome x) (text x))
flits_report options asked trace named counts judged config fault items unfinished waiting ids accounts these is_open nothing outcome text (Ok x) size same_fault same same_unfinished same_waiting same_ids same_accounts opens none are same_cut ordered same_named of is told = record {
  verdict = record {
    counts = counts;
    counted = are;
    cut = same_cut;
    judged = judged;
    holds = moved config (verdict_sizes options.types) options.stores counts fault (resolution_of options trace.seen).fault (items_with items unfinished waiting) (items_of_table (resolution_of options trace.seen).progress.table) judged size same_fault
        (same_items items (resolution_of options trace.seen).progress.table.flits unfinished (values_of (resolution_of options trace.seen).progress.table.unfinished) waiting (resolution_of options trace.seen).progress.table.waiting same same_unfinished same_waiting) of;
    told = is ∙ same_outcome asked is_open (is_table_open (resolution_of options trace.seen).progress.table) nothing (is_nothing_there asked.only trace.seen (resolution_of options trace.seen).progress.table.flits (resolution_of options trace.seen).progress.table.waiting) judged
        (opens ∙ same_open ids (values_of (resolution_of options trace.seen).progress.table.ids) unfinished (values_of (resolution_of options trace.seen).progress.table.unfinished) waiting (resolution_of options trace.seen).progress.table.waiting accounts (resolution_of options trace.seen).progress.table.accounts same_ids same_unfinished same_waiting same_accounts)
        (none ∙ (ap (λ (n : ℕ). is_nothing_of asked.only n items waiting) are.all ∙ same_nothing asked.only trace.seen items (resolution_of options trace.seen).progress.table.flits waiting (resolution_of options trace.seen).progress.table.waiting same same_waiting));
  };
  these = these;
  ordered = ordered;
  told = text_of asked trace.seen named counts.cut trace.cut these is_open nothing judged (outcome x) (text x) same_cut is same_named told;
}
flits_report options asked trace named counts judged config fault items unfinished waiting ids accounts these is_open nothing outcome text (Err e) size same_fault same same_unfinished same_waiting same_ids same_accounts opens none are same_cut ordered same_named of is told = tt

-- what is told of the trace that was read, or of the one that the file is
pub report_as : {Y : Type 0} (options : Options) (asked : Asked) (reading : Reading Y) (read : Result Trace TraceFault) (outcome : TraceOutcome) (text : List ℕ) → IsReadAs options (Ok reading) read
    → ((trace : Trace) → read ≡ Ok trace → IsReading options trace reading → IsFlitsReport options asked trace outcome text) → IsReportOn options asked read outcome text
report_as options asked reading (Ok trace) outcome text is report = report trace refl is
report_as options asked reading (Err fault) outcome text is report = absurd is

-- the flits that are named are those of the trace
pub same_flits : (file : List ℕ) (trace : Trace) (named : List Seen) → trace_in file ≡ Ok trace → seen_of (trace_in file) ≡ Ok named → named ≡ trace.seen
same_flits file trace named e f = let same : ◌≡◌ {A = Result (List Seen) TraceFault} (Ok named) (Ok trace.seen) = sym f ∙ ap seen_of e in cc

pub for_all : {R E : Type 0} (r : Result R E) (P P' : Trace → Type 0) (Q : Trace → R → Type 0) → ((trace : Trace) → P trace → P' trace → IfOk r (Q trace)) → IfOk r (λ x. (trace : Trace) → P trace → P' trace → Q trace x)
for_all (Ok x) P P' Q f = f
for_all (Err e) P P' Q f = tt
