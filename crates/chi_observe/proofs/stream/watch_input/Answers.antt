-- A piece more, one that stops the trace, and the end.
use Rattle.std.proofs.Common.{rules, ◌<◌, length, arith, ◌∙◌}
use Rattle.chi_observe.specs.Streams.{IsEndTaken}
use Rattle.chi_observe.specs.Watched.{watched}
use Rattle.chi_observe.proofs.StreamLemmas.{reads_all, reads_more, reads_stop}
use Rattle.chi_observe.proofs.stream.watch_input.Goals as goal

pub returns-in-Ok-eq0-clause-told : goal.returns-in-Ok-eq0-clause-told
returns-in-Ok-eq0-clause-told g c =
    let none = rw c.in-Ok-eq0.field-0-test at c.in-Ok-eq0.ensures.bytes.0 in
    let some : 0 < length c.read.new.buffer = omega arith in
    let ended : IsEndTaken (watched c.pieces.watch) (watched c.end.new.watch) c.pieces.stream.held.items c.pieces.stream.number c.end.result = search rules in
    reads_all _ _ _ (watched c.args.watch.now) (watched c.pieces.watch) (watched c.end.new.watch) c.pieces.stream.number c.pieces.stream.held.items c.end.result c.pieces.invariant.told none (c.in-Ok-eq0.ensures.bytes.1 c.in-Ok-eq0.field-0-test some) c.pieces.invariant.part ended

pub returns-in-Err-take_piece : goal.returns-in-Err-take_piece
returns-in-Err-take_piece g c = record {
  told = reads_stop _ _ (watched c.args.watch.now) (watched c.pieces.watch) (watched c.take_piece.new.watch) c.pieces.stream.number _ c.in-Err-take_piece.stop
      (reads_more _ _ _ (watched c.args.watch.now) (watched c.pieces.watch) c.pieces.stream.number c.pieces.stream.held.items _ c.pieces.invariant.told c.in-Ok.ensures.bytes.0) c.in-Err-take_piece.ensures;
  ok = c.in-Ok.ensures.ok ∙ c.pieces.invariant.count;
  err = tt;
}
