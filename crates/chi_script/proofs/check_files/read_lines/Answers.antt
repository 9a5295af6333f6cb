-- A comment more, the header with what stands behind it, a line that is faulty, and the end.
use Rattle.std.proofs.Common.{◌≡◌, false, true, map, sym, ◌∙◌, arith}
use Rattle.std.proofs.lemmas.Result.{err_from_is_err_and}
use Rattle.chi_script.specs.Files.{lines_of}
use Rattle.chi_script.specs.Checks.{is_comment, line_of_check}
use Rattle.chi_script.specs.CheckFiles.{check_script_of}
use Rattle.chi_script.proofs.CheckHeaderLoop.{bad_checks, bad_header, good, is_done, is_open, passes}
use Rattle.chi_script.proofs.check_files.read_lines.Goals as goal

pub returns-in_err-header : goal.returns-in_err-header
returns-in_err-header g c =
    let p = err_from_is_err_and c.from_residual.result c.from_residual.ensures.1 in
    let plain : is_comment c.in-Some.line.now ≡ false = sym c.is_comment.ensures ∙ c.if-not-is_comment.true in
    rw (p.1, p.2) (bad_header c.in_err-header.field-0.0 c.loop-line.number c.loop-line.rest.now c.in-Some.line.now c.in-Some.after.now (check_script_of 1 (lines_of c.args.bytes.now)) c.in-Some.ensures.some plain c.in_err-header.ensures c.loop-line.invariant.so_far)

pub returns-in_err-checks : goal.returns-in_err-checks
returns-in_err-checks g c =
    let p = err_from_is_err_and c.from_residual-in_err-checks.result c.from_residual-in_err-checks.ensures.1 in
    let plain : is_comment c.in-Some.line.now ≡ false = sym c.is_comment.ensures ∙ c.if-not-is_comment.true in
    rw (p.1, p.2) (bad_checks c.in_err-checks.field-0.0 c.loop-line.number c.loop-line.rest.now c.in-Some.line.now c.in-Some.after.now c.in_ok-header.header (check_script_of 1 (lines_of c.args.bytes.now)) c.in-Some.ensures.some plain c.in_ok-header.ensures c.in_err-checks.ensures c.loop-line.invariant.so_far)

pub returns-then-not-is_comment : goal.returns-then-not-is_comment
returns-then-not-is_comment g c =
    let plain : is_comment c.in-Some.line.now ≡ false = sym c.is_comment.ensures ∙ c.if-not-is_comment.true in
    good c.loop-line.number c.loop-line.rest.now c.in-Some.line.now c.in-Some.after.now c.in_ok-header.header (map line_of_check c.in_ok-checks.checks.items) (check_script_of 1 (lines_of c.args.bytes.now)) c.in-Some.ensures.some plain c.in_ok-header.ensures c.in_ok-checks.ensures c.loop-line.invariant.so_far

pub loop-line-preserved : goal.loop-line-preserved
loop-line-preserved g c =
    let comment : is_comment c.in-Some.line.now ≡ true = sym c.is_comment.ensures ∙ c.if-not-is_comment.false in record {
      so_far = passes c.loop-line.number c.loop-line.rest.now c.in-Some.line.now c.in-Some.after.now (check_script_of 1 (lines_of c.args.bytes.now)) c.in-Some.ensures.some comment c.loop-line.invariant.so_far;
      count = omega (arith, c.in-Some.ensures.shorter, c.loop-line.invariant.count);
    }

pub returns-then-is_empty : goal.returns-then-is_empty
returns-then-is_empty g c = is_done c.loop-line.number c.loop-line.rest.now (check_script_of 1 (lines_of c.args.bytes.now)) c.in_default.ensures.none (sym c.if-is_empty.ensures) c.loop-line.invariant.so_far

pub returns-else-is_empty : goal.returns-else-is_empty
returns-else-is_empty g c = is_open c.loop-line.number c.loop-line.rest.now (check_script_of 1 (lines_of c.args.bytes.now)) c.in_default.ensures.none (sym c.if-is_empty.ensures) c.loop-line.invariant.so_far
