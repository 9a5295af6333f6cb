-- The flits are told out of the line before the step and after it.
use Rattle.std.proofs.Common.{rules, ◌≡◌, None}
use Rattle.chi_node.specs.Home.{slice_of}
use Rattle.chi_node.specs.System.{StepsIn, SystemState, outstanding_at, system_step_refusal}
use Rattle.chi_node.proofs.RowCalls.{row_refused}
use Rattle.chi_library.proofs.NodeSent.{node_sent_is, node_taken_is, step_allowed}
use Rattle.chi_library.proofs.node_steps.step_telling.Goals as goal

pub returns-in_err-before-clause-refusal : goal.returns-in_err-before-clause-refusal
returns-in_err-before-clause-refusal c =
    let told = row_refused (slice_of c.args.node.now.home c.args.action.line.0) (outstanding_at c.args.node.now c.args.action.agent.0) c.args.action c.in_err-before.field-0.0 c.in_err-before.ensures.refusal in
    search (rules, told)

pub returns-clause-taken : goal.returns-clause-taken
returns-clause-taken c = node_taken_is c.args.node.now c.args.action c.tell_before.new.taken c.in_ok-before.ensures.taken

pub returns-clause-sent : goal.returns-clause-sent
returns-clause-sent c =
    let y : SystemState = c.args.node.now in
    let done : StepsIn y c.step.new.self c.args.action c.in_ok-stepped.stepped = search (rules, c.in_ok-stepped.ensures.ok) in
    let may : system_step_refusal y c.args.action ≡ None = search (rules, c.in_ok-stepped.ensures.refusal) in
    node_sent_is y c.step.new.self c.args.action c.in_ok-before.before c.tell_before.new.taken c.args.sent.now _ _
    c.in_ok-stepped.ensures.kept c.in_ok-before.ensures.kept (step_allowed y c.args.action may)
    done.home c.in_ok-before.ensures.serving c.in_ok-before.ensures.taken c.list_after-count.ensures
