-- Each audit of a run tells what the slices are.
use Rattle.std.proofs.Common.{List, [], ◌∷◌, sym, subst}
use Rattle.chi_script.specs.declared.commands.Command.{Command}
use Rattle.chi_script.specs.declared.commands.Command.TheVariants.{Act, Arrive, Audit, Flits, GiveBack, See, Show, Tend, Totals}
use Rattle.chi_node.specs.Words.{PortView}
use Rattle.chi_replay.specs.declared.replies.Reply.{Reply}
use Rattle.chi_replay.specs.Turns.{TurnAnswer, Claimed, Glanced, Judged, Machine, Owed, Saw, Spent, Tended, Went, turn}
use Rattle.chi_replay.specs.Texts.{MayAnswer, AuditsTell, Ending, Plays, TellsAudit}
use Rattle.chi_replay.proofs.Playing.{made_plays}

told : (m : Machine) (command : Command) (old : List PortView) (answers : List TurnAnswer) (reply : Reply) (state : Machine) (new : List PortView) → Plays (turn m command) old answers reply state new → TellsAudit command m.home.slices reply
told m Audit old [] reply state new h = absurd h
told m Audit old (Judged coherent ∷ []) reply state new h = (coherent, h.1.0, h.2.0)
told m Audit old (Judged coherent ∷ answer ∷ answers) reply state new h = absurd h.2
told m Audit old (Claimed claim ∷ answers) reply state new h = absurd h.1
told m Audit old (Owed ∷ answers) reply state new h = absurd h.1
told m Audit old (Spent entry ∷ answers) reply state new h = absurd h.1
told m Audit old (Went released ∷ answers) reply state new h = absurd h.1
told m Audit old (Saw counts ∷ answers) reply state new h = absurd h.1
told m Audit old (Tended released ∷ answers) reply state new h = absurd h.1
told m Audit old (Glanced free hand promised owed ∷ answers) reply state new h = absurd h.1
told m Totals old answers reply state new h = tt
told m (Show l) old answers reply state new h = tt
told m (Flits agent l) old answers reply state new h = tt
told m (Arrive agent l) old answers reply state new h = tt
told m (See agent) old answers reply state new h = tt
told m (GiveBack agent ty) old answers reply state new h = tt
told m (Tend agent ty) old answers reply state new h = tt
told m (Act action) old answers reply state new h = tt

pub audits_tell : (m : Machine) (ports : List PortView) (all : List Command) (answers : List TurnAnswer) → MayAnswer m ports all answers → AuditsTell m all answers
audits_tell m ports [] answers h = tt
audits_tell m ports (command ∷ rest) answers h =
    let mine = h.0 in
    let later = h.1 in
    let reply = h.2 in
    let state = h.3 in
    let new = h.4 in
    let plays : Plays (turn m command) ports mine reply state new = h.6 in
    let tells : TellsAudit command m.home.slices reply × AuditsTell state rest later = (told m command ports mine reply state new plays, audits_tell state new rest later h.7) in
    subst (AuditsTell m (command ∷ rest)) (sym h.5)
    (subst (λ (x : Ending). TellsAudit command m.home.slices x.reply × AuditsTell x.state rest x.left) (sym (made_plays (turn m command) ports mine later reply state new plays)) tells)
