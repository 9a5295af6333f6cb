-- What was judged is the resolution of the trace.
use Rattle.std.proofs.Common.{◌∙◌, subst}
use Rattle.std.specs.Prelude.{string_bytes}
use Rattle.chi_verdict.specs.Outstanding.{AreInOrder, outstanding_in}
use Rattle.chi_verdict.proofs.VerdictLemmas.{flits_report, for_all, resolved_outstanding, same_flits}
use Rattle.chi_verdict.proofs.reports.report_on_reading.Goals as goal

pub returns : goal.returns
returns g c = for_all c.report.result _ _ _ (λ trace read is.
    flits_report c.args.options c.args.asked trace _ c.args.reading.counts c.in_ok-judged.judged _ _ _ _ _ _ _ (outstanding_in c.sort_parts.new.resolution) c.is_anything_open-is_open.result c.is_nothing_there-nothing.result (λ report. report.outcome) (λ report. string_bytes report.text) c.report.result (cc c.config_of.ensures)
    is.resolved.fault is.resolved.flits is.resolved.unfinished is.resolved.waiting is.resolved.ids is.resolved.accounts c.is_anything_open-is_open.ensures c.is_nothing_there-nothing.ensures is.counts is.cut
    (subst (λ these. AreInOrder these (outstanding_in c.sort_parts.new.resolution)) (c.in_ok-judged.ensures.kept ∙ resolved_outstanding _ _ is.resolved) c.in_ok-sort_parts.ensures)
    (λ names. c.deref.ensures.value ∙ same_flits c.args.bytes.now trace c.in_ok-seen.seen.items read (c.in_ok-seen.ensures names)) c.in_ok-judged.ensures.judged c.report.ensures.outcome c.report.ensures.text)
