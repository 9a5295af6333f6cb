use Rattle.std.proofs.Common.{◌∙◌, ap}
use Rattle.chi_audit.specs.declared.tally_view.TallyView.{TallyView}
use Rattle.chi_audit.specs.Tally.{last_tally}
use Rattle.chi_audit.proofs.Orders.{last_added}
use Rattle.chi_audit.proofs.writer.Writer.store.Goals as goal

pub invariant_of-self : goal.invariant_of-self
invariant_of-self g c =
    (ap (λ (v : TallyView). v.writes) c.store.ensures.told ∙ c.self.invariant.0, ap (λ (v : TallyView). last_tally v.seen) c.store.ensures.told ∙ last_added c.self.inside.pass.me.0.client.seen c.args.tally)
