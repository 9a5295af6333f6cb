use Rattle.std.proofs.Common.{◌<◌, length, arith}
use Rattle.std.proofs.lemmas.List.{length-take}
use Rattle.chi_script.proofs.FrontLemmas.{ended, full_front}
use Rattle.chi_script.proofs.reading.read_most.Goals as goal
use Rattle.chi_script.proofs.reading.read_most.Goals.{else-pieces-test, then-pieces-test+in-Ok-eq0}

pub returns-clause-front : goal.returns-clause-front
returns-clause-front g c = elim c.pieces-test.branch [
  | else-pieces-test w ↦ full_front _ _ c.pieces.bytes.items c.args.most c.pieces.invariant.known (omega (arith, c.pieces.invariant.bound))
  | then-pieces-test+in-Ok-eq0 w ↦
      let none = rw w.in-Ok-eq0.field-0-test at w.in-Ok-eq0.ensures.bytes.0 in
      let some : 0 < length w.read.new.buffer = omega (arith, length-take w.min-room.result c.pieces.buffer) in
      ended _ _ _ c.pieces.bytes.items c.args.most c.pieces.invariant.known none (w.in-Ok-eq0.ensures.bytes.1 w.in-Ok-eq0.field-0-test some) c.pieces.invariant.bound
]
