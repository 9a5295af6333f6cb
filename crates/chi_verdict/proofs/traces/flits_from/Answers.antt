-- A line more, a line that is faulty, and the end.
use Rattle.std.proofs.Common.{arith}
use Rattle.std.proofs.lemmas.Result.{err_from_is_err_and}
use Rattle.chi_script.specs.Files.{lines_of}
use Rattle.chi_verdict.specs.Traces.{seen_of, trace_from}
use Rattle.chi_verdict.proofs.TraceLemmas.{goes_on, is_done, is_misfit, stops}
use Rattle.chi_verdict.proofs.traces.flits_from.Goals as goal

pub returns-in_err-add_flit : goal.returns-in_err-add_flit
returns-in_err-add_flit g c =
    let p = err_from_is_err_and c.from_residual.result c.from_residual.ensures.1 in
    rw (p.1, p.2) (stops c.in_err-add_flit.field-0.0 c.loop-line.flits.items c.loop-line.number c.loop-line.rest.now c.in-Some.line.now c.in-Some.after.now (seen_of (trace_from 1 (lines_of c.args.bytes.now))) c.in-Some.ensures.some c.in_err-add_flit.ensures c.loop-line.invariant.so_far)

pub loop-line-preserved : goal.loop-line-preserved
loop-line-preserved g c = record {
  so_far = goes_on c.loop-line.flits.items c.add_flit.new.flits.items c.loop-line.number c.loop-line.rest.now c.in-Some.line.now c.in-Some.after.now (seen_of (trace_from 1 (lines_of c.args.bytes.now))) c.in-Some.ensures.some c.in_ok-add_flit.ensures c.loop-line.invariant.so_far;
  count = omega (arith, c.in-Some.ensures.shorter, c.loop-line.invariant.count);
}

pub returns-in_err-cut_at : goal.returns-in_err-cut_at
returns-in_err-cut_at g c =
    let p = err_from_is_err_and c.from_residual-in_err-cut_at.result c.from_residual-in_err-cut_at.ensures.1 in
    rw (p.1, p.2) (is_misfit c.in_err-cut_at.field-0.0 c.loop-line.flits.items c.loop-line.number c.loop-line.rest.now (seen_of (trace_from 1 (lines_of c.args.bytes.now))) c.in_default.ensures.none c.in_err-cut_at.ensures c.loop-line.invariant.so_far)

pub returns : goal.returns
returns g c = is_done c.loop-line.flits.items c.loop-line.number c.loop-line.rest.now c.in_ok-cut_at.field-0 (seen_of (trace_from 1 (lines_of c.args.bytes.now))) c.in_default.ensures.none c.in_ok-cut_at.ensures c.loop-line.invariant.so_far
