-- What is told of an arrival and of a step plays the command's turn.
use Rattle.std.proofs.Common.{◌≡◌, IfOk, subst, sym, rules}
use Rattle.chi_flit.specs.declared.action.Action.{Action}
use Rattle.chi_flit.specs.Refusal.{refusal_of}
use Rattle.chi_script.specs.declared.commands.Command.{Command}
use Rattle.chi_node.specs.System.{ArrivesIn, arrive_refusal}
use Rattle.chi_replay.specs.NodeReplies.{arrival_reply, step_reply}
use Rattle.chi_replay.specs.Turns.{act_turn, arrive}
use Rattle.chi_replay.specs.Session.{PlaysOn, PlaysTurn, machine_of}
use Rattle.chi_replay.proofs.OwnSteps.{own_step}
use Rattle.chi_replay.proofs.Turned.{arrive_plays, step_plays}
use Rattle.chi_replay.proofs.session.play.Goals as goal

pub returns-in-Arrive : goal.returns-in-Arrive
returns-in-Arrive g c =
    let y = c.args.system.now in
    let did = c.arrive-arrived in
    let agent = c.in-Arrive.agent in
    let line = c.in-Arrive.line in
    let said : c.arrival_reply.result ≡ arrival_reply did.result = search (rules, c.arrival_reply.ensures) in
    let refusal : refusal_of did.result ≡ arrive_refusal y agent.0 line.0 = search (rules, did.ensures.refusal) in
    let ok : IfOk did.result (λ arrived. ArrivesIn y did.new.self agent line arrived) = search (rules, did.ensures.ok) in
    let plays : PlaysOn (arrive (machine_of y) agent line) y did.new.self c.arrival_reply.result = rw said (arrive_plays y did.new.self agent line did.result did.ensures.kept refusal ok did.ensures.err) in
    (c.arrival_reply.result, subst (λ (k : Command). PlaysTurn k y did.new.self c.arrival_reply.result) (sym c.in-Arrive.is) plays, c.hear.ensures)

pub step-stepped-requires : goal.step-stepped-requires
step-stepped-requires g c = own_step c.action.result.step c.action.ensures.no_admit c.action.ensures.no_retry

pub returns-in-Act : goal.returns-in-Act
returns-in-Act g c =
    let y = c.args.system.now in
    let did = c.step-stepped in
    let action = c.in-Act.action in
    let said : c.step_reply.result ≡ step_reply did.result = search (rules, c.step_reply.ensures) in
    let stepped : PlaysOn (act_turn (machine_of y) c.action.result) y did.new.self c.step_reply.result = rw said (step_plays y did.new.self c.action.result did.result did.ensures.kept did.ensures.refusal did.ensures.ok did.ensures.err) in
    let plays : PlaysOn (act_turn (machine_of y) action) y did.new.self c.step_reply.result = subst (λ (a : Action). PlaysOn (act_turn (machine_of y) a) y did.new.self c.step_reply.result) c.action.ensures.is stepped in
    (c.step_reply.result, subst (λ (k : Command). PlaysTurn k y did.new.self c.step_reply.result) (sym c.in-Act.is) plays, c.hear-in-Act.ensures)
