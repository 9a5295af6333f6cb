-- Nothing that agreement asks for changed.
use Rattle.std.proofs.Common.{sym, subst}
use Rattle.chi_node.specs.Agree.{Agree}
use Rattle.chi_node.proofs.requester.Requester.tend.Goals as goal

pub returns-clause-agreement : goal.returns-clause-agreement
returns-clause-agreement g c = λ s a. let before = subst (Agree s) (sym c.self.view_is) a in record { slots = before.slots; count = before.count }
