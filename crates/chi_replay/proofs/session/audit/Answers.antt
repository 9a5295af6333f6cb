-- The headline of the node is asked for, and the reply has what was found.
use Rattle.std.proofs.Common.{subst, rules}
use Rattle.chi_script.specs.declared.commands.Command.TheVariants.{Audit}
use Rattle.chi_node.specs.System.{SystemState}
use Rattle.chi_slice.specs.Audits.{IsAudited}
use Rattle.chi_replay.specs.declared.replies.Reply.TheVariants as replies
use Rattle.chi_replay.specs.Session.{PlaysTurn}
use Rattle.chi_replay.proofs.Turned.{audit_plays}
use Rattle.chi_replay.proofs.session.audit.Goals as goal

pub returns : goal.returns
returns g c =
    let did = c.headline-found in
    let audit = did.result in
    let found : IsAudited did.new.self.home.slices audit.loads audit.stores audit.coherent = search (rules, did.ensures.audited) in
    (replies.Audit audit, subst (λ (y : SystemState). PlaysTurn Audit y did.new.self (replies.Audit audit)) did.ensures.same (audit_plays did.new.self audit found did.ensures.headline), c.hear.ensures)
