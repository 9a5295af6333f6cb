use Rattle.chi_agent.proofs.Windows.{none_left}
use Rattle.chi_agent.proofs.operations.Operations.is_empty.Goals as goal

pub returns : goal.returns
returns g c =
    none_left c.self.inside.window.items c.args.self.now c.self.inside.script.items c.self.inside.next c.is_empty.result c.self.invariant c.self.view_is c.is_empty.ensures
