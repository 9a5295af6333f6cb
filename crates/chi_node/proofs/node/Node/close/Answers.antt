-- The ports are all that the tracker's requesters have.
use Rattle.std.proofs.Common.{◌≡◌, List, All, subst, sym}
use Rattle.chi_tracker.specs.Calls.{Owner}
use Rattle.chi_tracker.specs.Totals.{longest}
use Rattle.chi_tracker.specs.Witness.{GoesOnFromEach}
use Rattle.chi_node.specs.Node.{NodeState}
use Rattle.chi_node.proofs.Ports.{own_ports}
use Rattle.chi_node.proofs.node.Node.close.Goals as goal

pub close-totals-requires-clause-table : goal.close-totals-requires-clause-table
close-totals-requires-clause-table g c =
    let own = own_ports c.args.self c.args.requesters.items c.ports_of.result.items c.requires c.ports_of.ensures in
    subst (λ (n : NodeState). All (λ (p : Owner). p.table ≡ n.tracker.table) c.ports_of.result.items) (sym c.self.view_is) own

pub returns-clause-balanced : goal.returns-clause-balanced
returns-clause-balanced g c = rw (← c.self.view_is) c.close-totals.ensures.balanced

pub returns-clause-later : goal.returns-clause-later
returns-clause-later g c = subst (λ (os : List Owner). GoesOnFromEach os (longest os)) c.ports_of.ensures c.close-totals.ensures.later
