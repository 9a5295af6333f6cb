-- The watch that has seen nothing has these options.
use Rattle.std.proofs.Common.{ap, subst}
use Rattle.std.specs.Prelude.{IfOk, IfSome, string_bytes}
use Rattle.chi_observe.specs.Reports.{IsObserved}
use Rattle.chi_observe.specs.Watched.{Watched}
use Rattle.chi_observe.proofs.observations.report_on_input.Goals as goal

pub returns-clause-told : goal.returns-clause-told
returns-clause-told g c =
    subst (λ options. IfOk c.report_by.result (λ report. IfSome (g.I.Input.left c.args.input.now)
    (λ file. IsObserved options c.args.demands file report.outcome (string_bytes report.text))))
    (ap (λ (w : Watched). w.options) c.new-watch.ensures) c.report_by.ensures.told
