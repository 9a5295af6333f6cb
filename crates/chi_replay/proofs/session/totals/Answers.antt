-- The tracker is glanced at, and the reply has what it showed.
use Rattle.std.proofs.Common.{◌≡◌, ap, ◌∙◌, arith}
use Rattle.chi_slice.specs.Words.{Sizes}
use Rattle.chi_node.specs.Words.{Counts}
use Rattle.chi_script.specs.declared.commands.Command.TheVariants.{Totals}
use Rattle.chi_replay.specs.declared.replies.Reply.TheVariants as replies
use Rattle.chi_replay.specs.declared.totals.NodeTotals.{NodeTotals}
use Rattle.chi_replay.specs.Session.{PlaysTurn}
use Rattle.chi_replay.proofs.Turned.{AreFours, glance_plays}
use Rattle.chi_replay.proofs.session.totals.Goals as goal

pub returns : goal.returns
returns g c =
    let y = c.args.system.now in
    let counts : Counts = c.glance-counts.result in
    let four : AreFours counts = record { free = omega arith; hand = omega arith; promised = omega arith; owed = omega arith } in
    let profile : c.profile-profile.result ≡ y.home.config.profile = c.profile-profile.ensures ∙ ap (λ (k : Sizes). k.profile) c.config.ensures.is in
    let told : NodeTotals = record { counts = counts; profile = c.profile-profile.result } in
    let plays : PlaysTurn Totals y y (replies.Totals told) = glance_plays y counts c.profile-profile.result four profile in
    (replies.Totals told, plays, c.hear_totals.ensures)
