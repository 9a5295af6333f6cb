-- The sizes fit, and each requester has its own port.
use Rattle.std.proofs.lemmas.List.FromFn.{length-map-range_with_len, map-range_with_len_more}
use Rattle.std.proofs.Common.{◌≡◌, ◌∙◌, ap, sym, arith, length}
use Rattle.chi_tracker.specs.declared.shape.Shape.{Shape}
use Rattle.chi_tracker.specs.Views.{new_port}
use Rattle.chi_tracker.specs.Calls.{Owner}
use Rattle.chi_node.specs.Requester.{opening_requester}
use Rattle.chi_node.proofs.OpeningAgrees.{all_agree}
use Rattle.chi_node.proofs.Openings.{all_types, few_agents, few_entries, first_port, left_ports}
use Rattle.chi_node.proofs.opening.requesters.Goals as goal

pub new-requires-clause-entries : goal.new-requires-clause-entries
new-requires-clause-entries g c = rw c.entries-entries.ensures.value (few_entries c.args.config.now c.entries-entries.ensures.limits)

pub new-requires-in-loop-number-clause-port : goal.new-requires-in-loop-number-clause-port
new-requires-in-loop-number-clause-port g c =
    let s = c.in_ok-tracker.tracker.shape in let n = c.loop-number.number in
    let is = first_port c.in_ok-tracker.tracker.table s n c.agents-agents.result c.loop-number.ports.items c.remove-port.result c.loop-number-test.true c.loop-number.invariant.left c.remove-port.ensures.value in
    ap (λ (o : Owner). o.port) is ∙ ap (λ (o : Owner). new_port o.port.shape n) (sym is)

pub new-requires-in-loop-number-clause-history : goal.new-requires-in-loop-number-clause-history
new-requires-in-loop-number-clause-history g c =
    let s = c.in_ok-tracker.tracker.shape in let n = c.loop-number.number in
    let is = first_port c.in_ok-tracker.tracker.table s n c.agents-agents.result c.loop-number.ports.items c.remove-port.result c.loop-number-test.true c.loop-number.invariant.left c.remove-port.ensures.value in
    ap (λ (o : Owner). o.history) is

pub new-requires-in-loop-number-clause-sizes : goal.new-requires-in-loop-number-clause-sizes
new-requires-in-loop-number-clause-sizes g c =
    let s = c.in_ok-tracker.tracker.shape in let n = c.loop-number.number in
    let is = first_port c.in_ok-tracker.tracker.table s n c.agents-agents.result c.loop-number.ports.items c.remove-port.result c.loop-number-test.true c.loop-number.invariant.left c.remove-port.ensures.value in
    ap (λ (o : Owner). o.port.shape.sizes) is ∙ ap (λ (z : Shape). z.sizes) c.in_ok-tracker.ensures.shape

pub push-requires : goal.push-requires
push-requires g c =
    let few = few_agents c.args.config.now c.agents-agents.ensures.limits in
    let so_far = ap length c.loop-number.invariant.made in
    (omega arith, omega (arith, so_far, few.1, c.agents-agents.ensures.value, c.loop-number-test.true, length-map-range_with_len (opening_requester c.in_ok-tracker.tracker.table c.in_ok-tracker.tracker.shape) 0 c.loop-number.number))

pub loop-number-preserved : goal.loop-number-preserved
loop-number-preserved g c =
    let z = c.in_ok-tracker.tracker.table in let s = c.in_ok-tracker.tracker.shape in let n = c.loop-number.number in
    let is = first_port z s n c.agents-agents.result c.loop-number.ports.items c.remove-port.result c.loop-number-test.true c.loop-number.invariant.left c.remove-port.ensures.value in
    record {
      made = let more = map-range_with_len_more (opening_requester z s) 0 n n (omega arith) in
          let own : c.new-in-loop-number.result ≡ opening_requester z s n = c.new-in-loop-number.ensures ∙ ap (λ (o : Owner). opening_requester o.table o.port.shape n) is in
          cc (c.loop-number.invariant.made, c.push.ensures.items);
      left = left_ports z s n c.agents-agents.result c.loop-number.ports.items c.remove-port.new.self.items c.loop-number-test.true c.loop-number.invariant.left c.remove-port.ensures.items;
    }

pub returns-clause-types : goal.returns-clause-types
returns-clause-types g c = all_types c.args.config.now c.in_ok-tracker.tracker.shape c.agents-agents.ensures.limits (rw (← c.entries-entries.ensures.value, ← c.agents-agents.ensures.value) c.in_ok-tracker.ensures.shape)

pub returns-clause-agree : goal.returns-clause-agree
returns-clause-agree g c = all_agree c.args.config.now c.in_ok-tracker.tracker.table c.in_ok-tracker.tracker.shape c.agents-agents.ensures.limits
