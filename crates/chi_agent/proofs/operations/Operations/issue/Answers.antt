use Rattle.chi_agent.proofs.Windows.{issued_there}
use Rattle.chi_agent.proofs.operations.Operations.issue.Goals as goal

pub returns : goal.returns
returns g c =
    issued_there c.self.inside.window.items c.deref_mut.result.now c.args.self.now c.self.inside.script.items c.self.inside.next c.args.place.0 _ c.self.invariant c.self.view_is c.deref_mut.ensures.value c.requires.window c.requires.there
