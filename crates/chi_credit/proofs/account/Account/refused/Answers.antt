use Rattle.chi_credit.specs.Account.{type_at}
use Rattle.chi_credit.proofs.Counts.{due_below}
use Rattle.chi_credit.proofs.account.Account.refused.Goals as goal

pub returns-clause-few : goal.returns-clause-few
returns-clause-few c =
    due_below (type_at c.args.self.now c.args.slot.0) c.self.inside.slots c.args.self.now c.args.slot.0 c.self.view_is c.self.invariant.eight c.requires.slot c.requires.sent
