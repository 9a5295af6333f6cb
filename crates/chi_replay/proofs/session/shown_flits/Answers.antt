-- The agent and the line are there, or why they aren't.
use Rattle.std.proofs.Common.{◌≡◌, None, Some, refl, rules}
use Rattle.chi_node.specs.Home.{node_flits_refusal}
use Rattle.chi_replay.specs.declared.replies.Reply.TheVariants as replies
use Rattle.chi_replay.specs.Session.{machine_of}
use Rattle.chi_replay.specs.Turns.{Ends}
use Rattle.chi_replay.proofs.Turned.{looked_plays, refused_plays}
use Rattle.chi_replay.proofs.session.shown_flits.Goals as goal

pub returns-in-Ok : goal.returns-in-Ok
returns-in-Ok g c =
    let y = c.args.system.now in
    let allowed : None ≡ node_flits_refusal y.home c.args.agent.0 c.args.line.0 = search (rules, c.in-Ok.ensures.refusal) in
    (replies.Flits c.args.agent c.args.line, looked_plays y (node_flits_refusal y.home c.args.agent.0 c.args.line.0) (replies.Flits c.args.agent c.args.line) allowed, c.hear.ensures)

pub returns-in-Err : goal.returns-in-Err
returns-in-Err g c =
    let y = c.args.system.now in
    let refused : Some c.in-Err.refusal ≡ node_flits_refusal y.home c.args.agent.0 c.args.line.0 = search (rules, c.in-Err.ensures.refusal) in
    (replies.Refused c.in-Err.refusal, refused_plays y y (node_flits_refusal y.home c.args.agent.0 c.args.line.0) c.in-Err.refusal (Ends (replies.Flits c.args.agent c.args.line) (machine_of y)) refused refl, c.hear-in-Err.ensures)
