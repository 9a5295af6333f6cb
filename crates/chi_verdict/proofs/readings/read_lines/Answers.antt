-- A line more, a line that is faulty, and the end.
use Rattle.std.proofs.Common.{arith}
use Rattle.std.proofs.lemmas.Result.{err_from_is_err_and}
use Rattle.chi_script.specs.Files.{lines_of}
use Rattle.chi_verdict.specs.Readings.{lines_read, nothing_read}
use Rattle.chi_verdict.proofs.ReadingLemmas.{goes_on, is_done, is_misfit, stops}
use Rattle.chi_verdict.proofs.readings.read_lines.Goals as goal

pub returns-in_err-take_line : goal.returns-in_err-take_line
returns-in_err-take_line g c =
    let p = err_from_is_err_and c.from_residual.result c.from_residual.ensures.1 in
    rw (p.1, p.2) (stops c.in_err-take_line.field-0.0 c.args.options c.loop-line.number c.loop-line.rest.now c.in-Some.line.now c.in-Some.after.now c.loop-line.reader (lines_read c.args.options 1 (lines_of c.args.bytes.now) nothing_read) c.in-Some.ensures.some c.in_err-take_line.ensures c.loop-line.invariant.so_far)

pub loop-line-preserved : goal.loop-line-preserved
loop-line-preserved g c = record {
  so_far = goes_on c.args.options c.loop-line.number c.loop-line.rest.now c.in-Some.line.now c.in-Some.after.now c.loop-line.reader c.take_line.new.self (lines_read c.args.options 1 (lines_of c.args.bytes.now) nothing_read) c.in-Some.ensures.some c.in_ok-take_line.ensures c.loop-line.invariant.so_far;
  count = omega (arith, c.in-Some.ensures.shorter, c.loop-line.invariant.count);
}

pub returns-in_err-take_end : goal.returns-in_err-take_end
returns-in_err-take_end g c =
    let p = err_from_is_err_and c.from_residual-in_err-take_end.result c.from_residual-in_err-take_end.ensures.1 in
    rw (p.1, p.2) (is_misfit c.in_err-take_end.field-0.0 c.args.options c.loop-line.number c.loop-line.rest.now c.loop-line.reader (lines_read c.args.options 1 (lines_of c.args.bytes.now) nothing_read) c.in_default-first_line.ensures.none c.in_err-take_end.ensures c.loop-line.invariant.so_far)

pub returns : goal.returns
returns g c = is_done c.args.options c.loop-line.number c.loop-line.rest.now c.loop-line.reader c.take_end.new.self (lines_read c.args.options 1 (lines_of c.args.bytes.now) nothing_read) c.in_default-first_line.ensures.none c.in_ok-take_end.ensures c.loop-line.invariant.so_far
