use Rattle.std.proofs.lemmas.Result.{err_from_is_err_and}
use Rattle.chi_script.proofs.FileLemmas.{bad_header, good_header}
use Rattle.chi_script.proofs.files.read_first_line.Goals as goal

pub returns-in_err-header-in-Some-clause-err : goal.returns-in_err-header-in-Some-clause-err
returns-in_err-header-in-Some-clause-err g c =
    let p = err_from_is_err_and c.from_residual.result c.from_residual.ensures.1 in
    rw (p.1, p.2) (bad_header c.in_err-header-in-Some.field-0.0 c.args.bytes.now c.in-Some.line.now c.in-Some.rest.now c.in-Some.ensures.some c.in_err-header-in-Some.ensures)

pub returns-clause-lines : goal.returns-clause-lines
returns-clause-lines g c = good_header c.args.bytes.now c.in-Some.line.now c.in-Some.rest.now c.in_ok-header-in-Some.header c.in-Some.ensures.some c.in_ok-header-in-Some.ensures
