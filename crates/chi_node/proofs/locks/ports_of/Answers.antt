-- One port more in each turn.
use Rattle.std.proofs.Common.{◌<◌, ◌++◌, List, length, sym, ap, arith}
use Rattle.chi_tracker.specs.Calls.{Owner}
use Rattle.chi_node.specs.Node.{owners_of}
use Rattle.chi_node.proofs.Ports.{all_ports, next_port, owner_is}
use Rattle.chi_node.proofs.locks.ports_of.Goals as goal

pub loop-number-init : goal.loop-number-init
loop-number-init c = record {
  same = ap (λ (ps : List Owner). ps ++ owners_of c.args.requesters.items) (sym c.new-ports.ensures);
  left = omega (arith, c.len-count.ensures.value);
  made = ap length c.new-ports.ensures;
  few = c.len-count.ensures.fits;
}

pub remove-requires : goal.remove-requires
remove-requires c = (omega arith, omega (arith, c.loop-number.invariant.left, c.loop-number-test.true))

pub push-requires : goal.push-requires
push-requires c = (omega arith, omega (arith, c.loop-number.invariant.made, c.loop-number.invariant.few, c.loop-number-test.true))

pub loop-number-preserved : goal.loop-number-preserved
loop-number-preserved c =
    let l = c.loop-number in
    let some : 0 < length l.requesters.items = omega (arith, l.invariant.left, c.loop-number-test.true) in
    let is = owner_is c.into_port.result c.remove.result c.into_port.ensures.table c.into_port.ensures.view c.into_port.ensures.history in
    record {
      same = next_port (owners_of c.args.requesters.items) l.ports.items c.push.new.self.items l.requesters.items c.remove.new.self.items c.remove.result c.into_port.result l.invariant.same some c.remove.ensures.value c.remove.ensures.items is c.push.ensures.items;
      left = omega (arith, l.invariant.left, c.remove.ensures.len);
      made = omega (arith, l.invariant.made, c.push.ensures.len);
      few = l.invariant.few;
    }

pub returns : goal.returns
returns c =
    let l = c.loop-number in
    all_ports (owners_of c.args.requesters.items) l.ports.items l.requesters.items l.invariant.same (omega (arith, l.invariant.left, l.auto.number-end, c.loop-number-test.false))
