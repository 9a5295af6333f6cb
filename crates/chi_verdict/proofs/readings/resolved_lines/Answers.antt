-- What was read is what the grammar reads, or its fault.
use Rattle.std.proofs.lemmas.Result.{err_from_is_err_and}
use Rattle.chi_verdict.proofs.ReadingLemmas.{is_faulty, is_read}
use Rattle.chi_verdict.proofs.readings.resolved_lines.Goals as goal

pub returns-in_err-reader : goal.returns-in_err-reader
returns-in_err-reader g c =
    let p = err_from_is_err_and c.from_residual.result c.from_residual.ensures.1 in
    rw (p.1, p.2) (is_faulty c.args.options c.args.bytes.now c.in_err-reader.field-0.0 c.in_err-reader.ensures)

pub returns-in-Ok : goal.returns-in-Ok
returns-in-Ok g c = is_read c.args.options c.args.bytes.now c.in_ok-reader.reader c.in-Ok.reading c.in_ok-reader.ensures c.in-Ok.ensures
