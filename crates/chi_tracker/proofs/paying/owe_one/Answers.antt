use Rattle.std.proofs.Common.{ap}
use Rattle.chi_tracker.specs.Steps.{port_of}
use Rattle.chi_tracker.specs.Calls.{owner_in}
use Rattle.chi_tracker.proofs.Conduct.{does_owe}
use Rattle.chi_tracker.proofs.paying.owe_one.Goals as goal

pub returns-clause-acts : goal.returns-clause-acts
returns-clause-acts c =
    does_owe (owner_in c.args.port_seat.now) (owner_in c.look_step-word.new.port_seat) (owner_in c.owe_step.new.port_seat) c.args.ty c.first_clear.result c.look_step-word.result c.owe_step.result
    (ap (λ s. (port_of s).who) c.look_step-word.ensures.is.view) c.look_step-word.ensures.is.acts c.owe_step.ensures.acts c.first_clear.ensures
