-- A line more, a line that is faulty, and the end.
use Rattle.std.proofs.Common.{sym, map, arith}
use Rattle.std.proofs.lemmas.Result.{err_from_is_err_and}
use Rattle.chi_script.specs.Files.{lines_of}
use Rattle.chi_script.specs.Checks.{line_of_check}
use Rattle.chi_script.specs.CheckFiles.{checks_of}
use Rattle.chi_script.proofs.CheckLoop.{goes_on, is_done, is_open, stops}
use Rattle.chi_script.proofs.check_files.checks_from.Goals as goal

pub returns-in_err-add_check : goal.returns-in_err-add_check
returns-in_err-add_check g c =
    let p = err_from_is_err_and c.from_residual.result c.from_residual.ensures.1 in
    rw (p.1, p.2) (stops c.in_err-add_check.field-0.0 (map line_of_check c.loop-line.checks.items) c.loop-line.number c.loop-line.rest.now c.in-Some.line.now c.in-Some.after.now (checks_of c.args.first (lines_of c.args.bytes.now)) c.in-Some.ensures.some c.in_err-add_check.ensures c.loop-line.invariant.so_far)

pub loop-line-preserved : goal.loop-line-preserved
loop-line-preserved g c = record {
  so_far = goes_on (map line_of_check c.loop-line.checks.items) (map line_of_check c.add_check.new.checks.items) c.loop-line.number c.loop-line.rest.now c.in-Some.line.now c.in-Some.after.now (checks_of c.args.first (lines_of c.args.bytes.now)) c.in-Some.ensures.some c.in_ok-add_check.ensures c.loop-line.invariant.so_far;
  count = omega (arith, c.in-Some.ensures.shorter, c.loop-line.invariant.count);
}

pub returns-then-is_empty : goal.returns-then-is_empty
returns-then-is_empty g c = is_done (map line_of_check c.loop-line.checks.items) c.loop-line.number c.loop-line.rest.now (checks_of c.args.first (lines_of c.args.bytes.now)) c.in_default.ensures.none (sym c.if-is_empty.ensures) c.loop-line.invariant.so_far

pub returns : goal.returns
returns g c = is_open (map line_of_check c.loop-line.checks.items) c.loop-line.number c.loop-line.rest.now (checks_of c.args.first (lines_of c.args.bytes.now)) c.in_default.ensures.none (sym c.if-is_empty.ensures) c.loop-line.invariant.so_far
