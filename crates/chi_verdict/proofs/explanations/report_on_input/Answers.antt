-- The bytes that were read tell what the file is.
use Rattle.std.proofs.Common.{List, ℕ, subst}
use Rattle.std.specs.Prelude.{string_bytes}
use Rattle.chi_verdict.specs.Verdicts.{IsReport}
use Rattle.chi_verdict.proofs.VerdictLemmas.{of_whole}
use Rattle.chi_verdict.proofs.explanations.report_on_input.Goals as goal

pub returns-in-Ok-clause-told : goal.returns-in-Ok-clause-told
returns-in-Ok-clause-told g c =
    let report = c.in-Ok.report in
    of_whole c.args.options c.args.asked _ _ report.outcome (string_bytes report.text) c.in_ok-bytes.ensures.front
    (subst (λ (bytes : List ℕ). IsReport c.args.options c.args.asked bytes report.outcome (string_bytes report.text)) c.deref.ensures.value c.in-Ok.ensures)
