use Rattle.std.proofs.Common.{arith}
use Rattle.chi_script.proofs.WriteLemmas.{kept, one_more, within}
use Rattle.chi_script.proofs.system.write_whole.Goals as goal
use Rattle.chi_script.proofs.system.write_whole.Goals.{in-Ok, in-Err}

pub writes-preserved : goal.writes-preserved
writes-preserved g c = elim c.match-write.branch [
  | in-Ok w ↦ record {
    known = rw w.done-is (one_more _ _ _ c.writes.done w.in-Ok.count c.args.bytes.now c.writes.invariant.known w.in-Ok.ensures.bytes);
    bound = rw w.done-is (within c.writes.done w.in-Ok.count c.args.bytes.now c.writes.invariant.bound w.in-Ok.ensures.bound);
  }
  | in-Err w ↦ record {
    known = rw w.done-is (kept _ _ _ _ c.writes.invariant.known w.in-Err.ensures.bytes);
    bound = omega (arith, w.done-is, c.writes.invariant.bound);
  }
]
