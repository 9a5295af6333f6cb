use Rattle.std.proofs.lemmas.Result.{err_from_is_err_and}
use Rattle.chi_script.proofs.StormLemmas.{bad_header, bad_operations, good}
use Rattle.chi_script.proofs.StormTextLemmas.{in_ranges}
use Rattle.chi_script.proofs.storms.read_storm.Goals as goal

pub returns-in_err-header-in-Some-clause-read : goal.returns-in_err-header-in-Some-clause-read
returns-in_err-header-in-Some-clause-read g c =
    let p = err_from_is_err_and c.from_residual.result c.from_residual.ensures.1 in
    rw (p.1, p.2) (bad_header c.in_err-header-in-Some.field-0.0 c.args.bytes.now c.in-Some.line.now c.in-Some.rest.now c.if-bytes-gt-MOST_BYTES.false c.in-Some.ensures.some c.in_err-header-in-Some.ensures)

pub returns-in_err-deeds-in-Some-clause-read : goal.returns-in_err-deeds-in-Some-clause-read
returns-in_err-deeds-in-Some-clause-read g c =
    let p = err_from_is_err_and c.from_residual-in_err-deeds-in-Some.result c.from_residual-in_err-deeds-in-Some.ensures.1 in
    rw (p.1, p.2) (bad_operations c.in_err-deeds-in-Some.field-0.0 c.args.bytes.now c.in-Some.line.now c.in-Some.rest.now c.in_ok-header-in-Some.header c.if-bytes-gt-MOST_BYTES.false c.in-Some.ensures.some c.in_ok-header-in-Some.ensures c.in_err-deeds-in-Some.ensures)

pub returns-in_ok-deeds-in-Some-clause-read : goal.returns-in_ok-deeds-in-Some-clause-read
returns-in_ok-deeds-in-Some-clause-read g c = good c.args.bytes.now c.in-Some.line.now c.in-Some.rest.now c.in_ok-header-in-Some.header c.in_ok-deeds-in-Some.deeds.items c.if-bytes-gt-MOST_BYTES.false c.in-Some.ensures.some c.in_ok-header-in-Some.ensures c.in_ok-deeds-in-Some.ensures

pub returns-in_ok-deeds-in-Some-clause-ranges : goal.returns-in_ok-deeds-in-Some-clause-ranges
returns-in_ok-deeds-in-Some-clause-ranges g c = in_ranges c.in_ok-header-in-Some.header c.in_ok-deeds-in-Some.deeds.items c.in-Some.rest.now 2 c.in_ok-deeds-in-Some.ensures
