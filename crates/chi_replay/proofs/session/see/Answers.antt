-- A look at the promises plays its turn.
use Rattle.std.proofs.Common.{◌≡◌, None, Some, ap, ◌∙◌, length, arith, rules, subst, sym}
use Rattle.chi_flit.specs.declared.credit.Profile.{Profile}
use Rattle.chi_slice.specs.Words.{Sizes}
use Rattle.chi_node.specs.Credits.{Sees}
use Rattle.chi_node.specs.Outstanding.{see_refusal}
use Rattle.chi_node.specs.System.{DoesAlone}
use Rattle.chi_script.specs.declared.commands.Command.TheVariants.{See}
use Rattle.chi_replay.specs.declared.replies.Reply.TheVariants as replies
use Rattle.chi_replay.specs.Session.{PlaysTurn, machine_of}
use Rattle.chi_replay.specs.Turns.{Asks, See as TurnSee, turn_after_see}
use Rattle.chi_replay.proofs.Credited.{see_plays}
use Rattle.chi_replay.proofs.Turned.{refused_plays}
use Rattle.chi_replay.proofs.session.see.Goals as goal

pub returns-in-Ok : goal.returns-in-Ok
returns-in-Ok g c =
    let y = c.args.system.now in
    let allowed : None ≡ see_refusal y.home c.args.agent.0 = search (rules, c.in-Ok.ensures.refusal) in
    let saw : DoesAlone y c.see.new.self c.args.agent (Sees c.in-Ok.counts) = search (rules, c.in-Ok.ensures.ok) in
    let profile : c.profile-profile.result ≡ y.home.config.profile = c.profile-profile.ensures ∙ ap (λ (k : Sizes). k.profile) c.config.ensures.is in
    let four : length c.in-Ok.counts ≡ 4 = omega arith in
    let plays : PlaysTurn (See c.args.agent) y c.see.new.self (replies.Credits (record { counts = c.in-Ok.counts; profile = c.profile-profile.result })) =
    subst (λ (p : Profile). PlaysTurn (See c.args.agent) y c.see.new.self (replies.Credits (record { counts = c.in-Ok.counts; profile = p }))) (sym profile)
    (see_plays y c.see.new.self c.args.agent c.in-Ok.counts c.in-Ok.ensures.kept allowed four saw) in
    (replies.Credits (record { counts = c.in-Ok.counts; profile = c.profile-profile.result }), plays, c.hear_credits.ensures)

pub returns-in-Err : goal.returns-in-Err
returns-in-Err g c =
    let y = c.args.system.now in
    let refused : Some c.in-Err.refusal ≡ see_refusal y.home c.args.agent.0 = search (rules, c.in-Err.ensures.refusal) in
    (replies.Refused c.in-Err.refusal, refused_plays y c.see.new.self (see_refusal y.home c.args.agent.0) c.in-Err.refusal (Asks (TurnSee c.args.agent) (turn_after_see (machine_of y) c.args.agent)) refused c.in-Err.ensures.err, c.hear.ensures)
