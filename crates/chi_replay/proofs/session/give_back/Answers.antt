-- A credit that is given back plays its turn.
use Rattle.std.proofs.Common.{◌≡◌, IfOk, rules}
use Rattle.chi_flit.specs.Refusal.{refusal_of}
use Rattle.chi_node.specs.Credits.{ForType, GivesBack}
use Rattle.chi_node.specs.System.{DoesAlone, give_back_refusal_in}
use Rattle.chi_replay.specs.NodeReplies.{give_back_reply}
use Rattle.chi_script.specs.declared.commands.Command.TheVariants.{GiveBack}
use Rattle.chi_replay.specs.Session.{PlaysTurn}
use Rattle.chi_replay.proofs.Credited.{give_back_plays}
use Rattle.chi_replay.proofs.session.give_back.Goals as goal

pub returns : goal.returns
returns g c =
    let did = c.give_back-given in
    let said : c.give_back_reply.result ≡ give_back_reply did.result = search (rules, c.give_back_reply.ensures) in
    let refusal : refusal_of did.result ≡ give_back_refusal_in c.args.system.now c.args.agent.0 c.args.credit = search (rules, did.ensures.refusal) in
    let ok : IfOk did.result (λ released. DoesAlone c.args.system.now did.new.self c.args.agent (ForType c.args.credit (λ t. GivesBack t released))) = search (rules, did.ensures.ok) in
    let plays : PlaysTurn (GiveBack c.args.agent c.args.credit) c.args.system.now did.new.self c.give_back_reply.result = rw said (give_back_plays c.args.system.now did.new.self c.args.agent c.args.credit did.result did.ensures.kept refusal ok did.ensures.err) in
    (c.give_back_reply.result, plays, c.hear.ensures)
