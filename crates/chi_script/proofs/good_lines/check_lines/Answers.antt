use Rattle.std.proofs.Common.{sym, arith}
use Rattle.std.proofs.lemmas.Result.{err_from_is_err_and}
use Rattle.chi_script.specs.Files.{lines_of, commands_of}
use Rattle.chi_script.proofs.CommandLoop.{so_far_none, so_far_line, stops_at, is_done, is_open}
use Rattle.chi_script.proofs.good_lines.check_lines.Goals as goal

pub loop-line-init : goal.loop-line-init
loop-line-init c = record { so_far = so_far_none c.args.lines.now; count = omega arith }

pub returns-in_err-_command-clause-err : goal.returns-in_err-_command-clause-err
returns-in_err-_command-clause-err c =
    let p = err_from_is_err_and c.from_residual.result c.from_residual.ensures.1 in
    rw (p.1, p.2) (stops_at c.in_err-_command.field-0.0 c.loop-line.invariant.so_far.front c.loop-line.number c.loop-line.rest.now c.in-Some.line.now c.in-Some.after.now (commands_of 2 (lines_of c.args.lines.now)) c.in-Some.ensures.some c.in_err-_command.ensures c.loop-line.invariant.so_far.same)

pub loop-line-preserved : goal.loop-line-preserved
loop-line-preserved c = record {
  so_far = so_far_line c.args.lines.now c.loop-line.number c.loop-line.rest.now c.in-Some.line.now c.in-Some.after.now c.in_ok-_command._command c.in-Some.ensures.some c.in_ok-_command.ensures c.loop-line.invariant.so_far;
  count = omega (arith, c.in-Some.ensures.shorter, c.loop-line.invariant.count);
}

pub returns-then-is_empty-clause-ok : goal.returns-then-is_empty-clause-ok
returns-then-is_empty-clause-ok c = (c.loop-line.invariant.so_far.front, is_done c.loop-line.invariant.so_far.front c.loop-line.number c.loop-line.rest.now (commands_of 2 (lines_of c.args.lines.now)) c.in_default.ensures.none (sym c.if-is_empty.ensures) c.loop-line.invariant.so_far.same)

pub returns-else-is_empty-clause-err : goal.returns-else-is_empty-clause-err
returns-else-is_empty-clause-err c = is_open c.loop-line.invariant.so_far.front c.loop-line.number c.loop-line.rest.now (commands_of 2 (lines_of c.args.lines.now)) c.in_default.ensures.none (sym c.if-is_empty.ensures) c.loop-line.invariant.so_far.same
