-- A line of which too much was read stops the trace.
use Rattle.std.proofs.Common.{◌++◌}
use Rattle.chi_script.specs.Files.{lines_of}
use Rattle.chi_observe.specs.Streams.{trace_after}
use Rattle.chi_observe.specs.Watched.{watched}
use Rattle.chi_observe.proofs.StreamLemmas.{stop_where, too_long}
use Rattle.chi_observe.proofs.stream.take_short_lines.Goals as goal

pub returns-in-Some : goal.returns-in-Some
returns-in-Some g c = λ more.
    stop_where (watched c.take_lines.new.watch) c.in-Some.stop _ (trace_after (watched c.take_lines.new.watch) c.in-Ok.left.number (lines_of (c.in-Ok.left.rest.now ++ more)))
    (c.in-Ok.ensures.same more)
    (too_long (watched c.take_lines.new.watch) (watched c.take_lines.new.watch) c.in-Ok.left.number c.in-Ok.left.rest.now more c.in-Some.stop c.in-Ok.ensures.part c.in-Some.ensures)
