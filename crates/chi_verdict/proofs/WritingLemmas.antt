-- What explain leaves, from what its two halves leave.
use Rattle.std.proofs.Common.{◌≡◌, ◌≢◌, ◌+◌, ℕ, false, List, Option, Some, None, Result, Ok, Err, IfErr, IfOk, IfSome, OnErr, OnOk, subst, sym}
use Rattle.chi_script.specs.Devices.{AppendsFront}
use Rattle.chi_script.specs.declared.faults.Fault.{Fault}
use Rattle.chi_script.specs.declared.faults.Fault.TheVariants as faults
use Rattle.chi_trace.specs.declared.faults.TraceFault.{TraceFault}
use Rattle.chi_resolution.specs.declared.resolution.Options.{Options}
use Rattle.chi_verdict.specs.declared.asked.Asked.{Asked}
use Rattle.chi_verdict.specs.declared.reports.TraceOutcome.{TraceOutcome}
use Rattle.chi_verdict.specs.declared.reports.TraceOutcome.TheVariants.{Malformed}
use Rattle.chi_verdict.specs.Verdicts.{AtFailedWrite, IsReport, IsReportFront, IsReportOn, IsReportWritten, IsUnreported, KeepsUnlessWritten, is_malformed}
use Rattle.chi_verdict.specs.Traces.{Trace}

-- the report that is given is the one that was made
pub given : {R E : Type 0} (P : R → Type 0) (report : R) (r : Result R E) → P report → IfOk r (λ x. x ≡ report) → IfOk r P
given P report (Ok x) is same = subst P (sym same) is
given P report (Err e) is same = tt

pub given_ok : {R E : Type 0} (P : R → Type 0) (report : R) (r : Result R E) → OnOk r (P report) → IfOk r (λ x. x ≡ report) → IfOk r P
given_ok P report (Ok x) is same = subst P (sym same) is
given_ok P report (Err e) is same = tt

pub always : {R E : Type 0} (P : Type 0) (r : Result R E) → P → OnOk r P
always P (Ok x) is = is
always P (Err e) is = tt

-- writing failed
pub unwritten : {R : Type 0} (read read' wrote wrote' : ℕ) (r : Result R Fault) → read' ≡ read → IfErr r (λ fault. fault ≡ faults.Write) → OnErr r (wrote' ≡ wrote + 1) → IfErr r (IsUnreported read read' wrote wrote')
unwritten read read' wrote wrote' (Ok x) same is counted = tt
unwritten read read' wrote wrote' (Err fault) same is counted = subst (λ (f : Fault). IsUnreported read read' wrote wrote' f) (sym is) (same, counted)

pub kept_otherwise : {R : Type 0} (P : Type 0) (r : Result R Fault) → IfErr r (λ fault. fault ≡ faults.Write) → IfErr r (λ fault. fault ≢ faults.Write → P)
kept_otherwise P (Ok x) is = tt
kept_otherwise P (Err fault) is = λ other. absurd (other is)

pub front_written : {R : Type 0} (options : Options) (asked : Asked) (left old new : Option (List ℕ)) (outcome : TraceOutcome) (text : List ℕ) (r : Result R Fault) → IfSome left (λ file. IsReport options asked file outcome text)
    → OnErr r (is_malformed outcome ≡ false) → OnErr r (AppendsFront old new text) → AtFailedWrite r (IfSome left (λ file. IsReportFront options asked file old new))
front_written options asked left old new outcome text (Ok x) told wellformed front = λ e. absurd (cc e)
front_written options asked None old new outcome text (Err fault) told wellformed front = λ e. tt
front_written options asked (Some file) old new outcome text (Err fault) told wellformed front = λ e. record { outcome = outcome; text = text; report = told; wellformed = wellformed; front = front }

not_malformed : (outcome : TraceOutcome) (fault : TraceFault) → outcome ≡ Malformed fault → is_malformed outcome ≡ false → ⊥
not_malformed outcome fault is not = let e : is_malformed (Malformed fault) ≡ false = subst (λ (o : TraceOutcome). is_malformed o ≡ false) is not in cc e

-- of a file that is no trace nothing is written
pub silent : {R : Type 0} (options : Options) (asked : Asked) (left old new : Option (List ℕ)) (outcome : TraceOutcome) (text : List ℕ) (r : Result R Fault) → IfSome left (λ file. IsReport options asked file outcome text)
    → OnOk r (IsReportWritten outcome old new text) → OnErr r (is_malformed outcome ≡ false) → KeepsUnlessWritten left old new
silent options asked None old new outcome text r told written wellformed = tt
silent options asked (Some file) old new outcome text (Ok x) told written wellformed = λ fault faulty.
    let is = subst (λ (read : Result Trace TraceFault). IsReportOn options asked read outcome text) faulty told in
    subst (λ (o : TraceOutcome). IsReportWritten o old new text) is.0 written
silent options asked (Some file) old new outcome text (Err e) told written wellformed = λ fault faulty.
    let is = subst (λ (read : Result Trace TraceFault). IsReportOn options asked read outcome text) faulty told in
    absurd (not_malformed outcome fault is.0 wellformed)
