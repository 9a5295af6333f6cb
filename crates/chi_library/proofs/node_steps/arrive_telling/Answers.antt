-- The flits are told out of the line before the arrival and after it.
use Rattle.std.proofs.Common.{rules, ◌≡◌, None, map, subst}
use Rattle.chi_flit.specs.declared.action.Step.{Step}
use Rattle.chi_node.specs.declared.answers.Arrived.{Arrived}
use Rattle.chi_node.specs.Calls.{arrival_action}
use Rattle.chi_node.specs.Home.{node_line, slice_of}
use Rattle.chi_node.specs.System.{ArrivesIn, SystemState, arrive_refusal}
use Rattle.chi_library.specs.Flits.{sent_told}
use Rattle.chi_library.specs.Listed.{IsListed}
use Rattle.chi_library.specs.Standing.{line_standing}
use Rattle.chi_library.proofs.NodeSent.{arrival_allowed, arrival_told_is, node_sent_is}
use Rattle.chi_library.proofs.node_steps.arrive_telling.Goals as goal

pub returns-clause-sent : goal.returns-clause-sent
returns-clause-sent c =
    let y : SystemState = c.args.node.now in
    let arrived : Arrived = c.in_ok-arrived.arrived in
    let done : ArrivesIn y c.arrive.new.self c.args.agent c.args.line arrived = search (rules, c.in_ok-arrived.ensures.ok) in
    let may : arrive_refusal y c.args.agent.0 c.args.line.0 ≡ None = search (rules, c.in_ok-arrived.ensures.refusal) in
    node_sent_is y c.arrive.new.self (arrival_action c.args.agent.0 c.args.line arrived) c.in_ok-before.before c.tell_before.new.taken c.args.sent.now _ _
    c.in_ok-arrived.ensures.kept c.in_ok-before.ensures.kept
    (arrival_allowed (slice_of y.home c.args.line.0) c.args.agent c.args.line arrived _ _ may done.requester)
    done.home c.in_ok-before.ensures.serving
    (arrival_told_is (slice_of y.home c.args.line.0) c.args.agent c.args.line arrived c.tell_before.new.taken c.in_ok-before.ensures.taken)
    (subst (λ (step : Step). IsListed (map sent_told (line_standing (node_line c.arrive.new.self.home c.args.line.0) c.args.agent c.in_ok-before.before c.tell_before.new.taken.flit step)) c.args.sent.now c.list_after-count.new.sent c.list_after-count.result)
    c.step_of.ensures c.list_after-count.ensures)
