-- The flits are those of the trace, or the fault is its first.
use Rattle.std.specs.Prelude.{string_bytes}
use Rattle.chi_verdict.specs.Traces.{trace_in}
use Rattle.chi_verdict.specs.Verdicts.{IsReport}
use Rattle.chi_verdict.proofs.VerdictLemmas.{carried, malformed_report, report_as}
use Rattle.chi_verdict.proofs.reports.report_on.Goals as goal

pub returns-in-Ok : goal.returns-in-Ok
returns-in-Ok g c =
    carried _ (λ report. IsReport c.args.options c.args.asked c.args.bytes.now report.outcome (string_bytes report.text)) c.report_on_reading.result
    (λ report is. report_as c.args.options c.args.asked c.in-Ok.reading (trace_in c.args.bytes.now) report.outcome (string_bytes report.text) c.in-Ok.ensures is)
    c.report_on_reading.ensures

pub returns-in-Err : goal.returns-in-Err
returns-in-Err g c =
    malformed_report c.args.options c.args.asked _ c.in-Err.fault (λ report. report.outcome) (λ report. string_bytes report.text) c.malformed.result c.in-Err.ensures
    c.malformed.ensures.outcome c.malformed.ensures.fault c.malformed.ensures.text
