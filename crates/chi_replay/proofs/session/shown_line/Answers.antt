-- The line is there, or why it isn't.
use Rattle.std.proofs.Common.{◌≡◌, None, Some, refl, rules}
use Rattle.chi_node.specs.Home.{node_view_refusal}
use Rattle.chi_replay.specs.declared.replies.Reply.TheVariants as replies
use Rattle.chi_replay.specs.Session.{machine_of}
use Rattle.chi_replay.specs.Turns.{Ends}
use Rattle.chi_replay.proofs.Turned.{looked_plays, refused_plays}
use Rattle.chi_replay.proofs.session.shown_line.Goals as goal

pub returns-in-None : goal.returns-in-None
returns-in-None g c =
    let y = c.args.system.now in
    let allowed : None ≡ node_view_refusal y.home c.args.line.0 = search (rules, c.line_refusal.ensures) in
    (replies.Line c.args.line, looked_plays y (node_view_refusal y.home c.args.line.0) (replies.Line c.args.line) allowed, c.hear.ensures)

pub returns-in-Some : goal.returns-in-Some
returns-in-Some g c =
    let y = c.args.system.now in
    let refused : Some c.in-Some.refusal ≡ node_view_refusal y.home c.args.line.0 = search (rules, c.line_refusal.ensures) in
    (replies.Refused c.in-Some.refusal, refused_plays y y (node_view_refusal y.home c.args.line.0) c.in-Some.refusal (Ends (replies.Line c.args.line) (machine_of y)) refused refl, c.hear-in-Some.ensures)
