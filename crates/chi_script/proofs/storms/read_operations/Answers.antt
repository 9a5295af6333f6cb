use Rattle.std.proofs.Common.{sym, arith}
use Rattle.std.proofs.lemmas.Result.{err_from_is_err_and}
use Rattle.chi_script.specs.Files.{lines_of}
use Rattle.chi_script.specs.Storms.{operations_from}
use Rattle.chi_script.proofs.OperationLoop.{goes_on, stops, is_done, is_open}
use Rattle.chi_script.proofs.storms.read_operations.Goals as goal

pub returns-in_err-operation : goal.returns-in_err-operation
returns-in_err-operation g c =
    let p = err_from_is_err_and c.from_residual.result c.from_residual.ensures.1 in
    rw (p.1, p.2) (stops c.args.header.now c.in_err-operation.field-0.0 c.loop-line.operations.items c.loop-line.number c.loop-line.rest.now c.in-Some.line.now c.in-Some.after.now (operations_from c.args.header.now 2 (lines_of c.args.bytes.now)) c.in-Some.ensures.some c.in_err-operation.ensures c.loop-line.invariant.so_far)

pub loop-line-preserved : goal.loop-line-preserved
loop-line-preserved g c = record {
  so_far = rw c.in_ok-push.ensures.items (goes_on c.args.header.now c.loop-line.operations.items c.loop-line.number c.loop-line.rest.now c.in-Some.line.now c.in-Some.after.now c.in_ok-operation.operation (operations_from c.args.header.now 2 (lines_of c.args.bytes.now)) c.in-Some.ensures.some c.in_ok-operation.ensures c.loop-line.invariant.so_far);
  count = omega (arith, c.in-Some.ensures.shorter, c.loop-line.invariant.count);
}

pub returns-then-is_empty : goal.returns-then-is_empty
returns-then-is_empty g c = is_done c.args.header.now c.loop-line.operations.items c.loop-line.number c.loop-line.rest.now (operations_from c.args.header.now 2 (lines_of c.args.bytes.now)) c.in_default.ensures.none (sym c.if-is_empty.ensures) c.loop-line.invariant.so_far

pub returns-else-is_empty : goal.returns-else-is_empty
returns-else-is_empty g c = is_open c.args.header.now c.loop-line.operations.items c.loop-line.number c.loop-line.rest.now (operations_from c.args.header.now 2 (lines_of c.args.bytes.now)) c.in_default.ensures.none (sym c.if-is_empty.ensures) c.loop-line.invariant.so_far
