-- A new node keeps what every node keeps.
use Rattle.chi_node.proofs.Systems.{made_system}
use Rattle.chi_node.proofs.system.System.new.Goals as goal

pub invariant_of-result : goal.invariant_of-result
invariant_of-result g c =
    let e = c.in_ok-slices.ensures in
    made_system c.args.config.now c.in_ok-slices.tracker c.in_ok-slices.slices.items c.in_ok-slices.requesters.items c.parts.ensures.limits e.agree e.tracker e.slices e.requesters

pub returns-clause-kept : goal.returns-clause-kept
returns-clause-kept g c =
    let e = c.in_ok-slices.ensures in
    (made_system c.args.config.now c.in_ok-slices.tracker c.in_ok-slices.slices.items c.in_ok-slices.requesters.items c.parts.ensures.limits e.agree e.tracker e.slices e.requesters).system
