-- What is told and written is the report on the input.
use Rattle.std.specs.Prelude.{string_bytes}
use Rattle.chi_observe.proofs.ReportLemmas.{always, front_written, given, given_ok, kept_otherwise, unwritten}
use Rattle.chi_observe.proofs.observations.observe.Goals as goal

pub returns-clause-told : goal.returns-clause-told
returns-clause-told g c = given _ c.in_ok-report.report c.write_report.result c.in_ok-report.ensures.told c.write_report.ensures.same

pub returns-clause-written : goal.returns-clause-written
returns-clause-written g c = given_ok _ c.in_ok-report.report c.write_report.result c.write_report.ensures.written c.write_report.ensures.same

pub returns-clause-read : goal.returns-clause-read
returns-clause-read g c = always _ c.write_report.result c.in_ok-report.ensures.ok

pub returns-clause-wrote : goal.returns-clause-wrote
returns-clause-wrote g c = c.write_report.ensures.ok

pub returns-clause-err : goal.returns-clause-err
returns-clause-err g c = unwritten _ _ _ _ c.write_report.result c.in_ok-report.ensures.ok c.write_report.ensures.fault c.write_report.ensures.err

pub returns-clause-front : goal.returns-clause-front
returns-clause-front g c =
    front_written c.args.options c.args.demands _ _ _ c.in_ok-report.report.outcome (string_bytes c.in_ok-report.report.text) c.write_report.result c.in_ok-report.ensures.told c.write_report.ensures.wellformed c.write_report.ensures.front

pub returns-clause-kept : goal.returns-clause-kept
returns-clause-kept g c = kept_otherwise _ c.write_report.result c.write_report.ensures.fault
