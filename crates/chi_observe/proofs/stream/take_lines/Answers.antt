-- A line more, and one that stops the trace.
use Rattle.std.proofs.Common.{◌∙◌}
use Rattle.chi_observe.specs.Watched.{watched}
use Rattle.chi_observe.proofs.StreamLemmas.{goes_on, stops}
use Rattle.chi_observe.proofs.stream.take_lines.Goals as goal

pub returns-in-Err : goal.returns-in-Err
returns-in-Err g c = λ more.
    stops (watched c.args.watch.now) (watched c.loop-line.watch) (watched c.take_text.new.watch) c.args.number c.loop-line.number c.args.bytes.now c.loop-line.rest.now c.in-Some.line.now c.in-Some.after.now more c.in-Err.stop
    (c.loop-line.invariant more) c.in-Some.ensures.some c.in-Err.ensures

pub loop-line-preserved : goal.loop-line-preserved
loop-line-preserved g c = λ more.
    c.loop-line.invariant more
    ∙ goes_on (watched c.loop-line.watch) (watched c.take_text.new.watch) c.loop-line.number c.in-Some-checked_add.next c.loop-line.rest.now c.in-Some.line.now c.in-Some.after.now more c.in-Some.ensures.some c.in_default-take_text.ensures c.in-Some-checked_add.ensures.1
