-- One requester more in each turn.
use Rattle.std.proofs.Common.{◌<◌, ◌++◌, List, length, map, sym, ap, arith}
use Rattle.chi_node.specs.Requester.{RequesterState}
use Rattle.chi_agent.specs.Ended.{requester_of}
use Rattle.chi_agent.proofs.Returns.{all_requesters, next_requester}
use Rattle.chi_agent.proofs.ended.requesters_of.Goals as goal

pub loop-number-init : goal.loop-number-init
loop-number-init c = record {
  same = ap (λ (rs : List RequesterState). rs ++ map requester_of c.args.results.items) (sym c.new-requesters.ensures);
  left = omega (arith, c.len-count.ensures.value);
  made = ap length c.new-requesters.ensures;
  few = c.len-count.ensures.fits;
}

pub remove-requires : goal.remove-requires
remove-requires c = (omega arith, omega (arith, c.loop-number.invariant.left, c.loop-number-test.true))

pub push-requires : goal.push-requires
push-requires c = (omega arith, omega (arith, c.loop-number.invariant.made, c.loop-number.invariant.few, c.loop-number-test.true))

pub loop-number-preserved : goal.loop-number-preserved
loop-number-preserved c =
    let l = c.loop-number in
    let some : 0 < length l.results.items = omega (arith, l.invariant.left, c.loop-number-test.true) in
    record {
      same = next_requester (map requester_of c.args.results.items) l.requesters.items c.push.new.self.items l.results.items c.remove.new.self.items c.remove.result l.invariant.same some c.remove.ensures.value c.remove.ensures.items c.push.ensures.items;
      left = omega (arith, l.invariant.left, c.remove.ensures.len);
      made = omega (arith, l.invariant.made, c.push.ensures.len);
      few = l.invariant.few;
    }

pub returns : goal.returns
returns c =
    let l = c.loop-number in
    all_requesters (map requester_of c.args.results.items) l.requesters.items l.results.items l.invariant.same (omega (arith, l.invariant.left, l.auto.number-end, c.loop-number-test.false))
