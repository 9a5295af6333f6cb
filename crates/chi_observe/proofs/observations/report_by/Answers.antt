-- The lines that were taken are those of the input.
use Rattle.std.specs.Prelude.{string_bytes}
use Rattle.std.proofs.lemmas.Result.{err_from_is_err_and}
use Rattle.chi_observe.proofs.ReportLemmas.{observed_of}
use Rattle.chi_observe.proofs.observations.report_by.Goals as goal

pub returns-in-Ok-clause-told : goal.returns-in-Ok-clause-told
returns-in-Ok-clause-told g c =
    let report = c.in-Ok.report in
    observed_of c.args.watch.now.options c.args.demands _ _ _ c.in_ok-stop.stop report.outcome (string_bytes report.text) c.requires.new c.in_ok-stop.ensures.told c.in-Ok.ensures.outcome c.in-Ok.ensures.text

pub returns-in_err-stop-clause-err : goal.returns-in_err-stop-clause-err
returns-in_err-stop-clause-err g c =
    let p = err_from_is_err_and c.from_residual.result c.from_residual.ensures.1 in
    rw (p.1, p.2) c.in_err-stop.ensures.err
