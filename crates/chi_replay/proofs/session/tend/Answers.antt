-- A type that is tended plays its turn.
use Rattle.std.proofs.Common.{◌≡◌, IfOk, rules}
use Rattle.chi_flit.specs.Refusal.{refusal_of}
use Rattle.chi_node.specs.Credits.{ForType, Tends}
use Rattle.chi_node.specs.System.{DoesAlone, tend_refusal_in}
use Rattle.chi_replay.specs.NodeReplies.{tend_reply}
use Rattle.chi_script.specs.declared.commands.Command.TheVariants.{Tend}
use Rattle.chi_replay.specs.Session.{PlaysTurn}
use Rattle.chi_replay.proofs.Credited.{tend_plays}
use Rattle.chi_replay.proofs.session.tend.Goals as goal

pub returns : goal.returns
returns g c =
    let did = c.tend-tended in
    let said : c.tend_reply.result ≡ tend_reply did.result = search (rules, c.tend_reply.ensures) in
    let refusal : refusal_of did.result ≡ tend_refusal_in c.args.system.now c.args.agent.0 c.args.credit = search (rules, did.ensures.refusal) in
    let ok : IfOk did.result (λ released. DoesAlone c.args.system.now did.new.self c.args.agent (ForType c.args.credit (λ t. Tends t released))) = search (rules, did.ensures.ok) in
    let plays : PlaysTurn (Tend c.args.agent c.args.credit) c.args.system.now did.new.self c.tend_reply.result = rw said (tend_plays c.args.system.now did.new.self c.args.agent c.args.credit did.result did.ensures.kept refusal ok did.ensures.err) in
    (c.tend_reply.result, plays, c.hear.ensures)
