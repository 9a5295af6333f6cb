use Rattle.chi_tracker.specs.declared.step.AtomicStep.TheVariants.{Spend, Return}
use Rattle.chi_tracker.specs.Calls.{owner_in}
use Rattle.chi_tracker.proofs.Conduct.{does_one}
use Rattle.chi_tracker.proofs.paying.pay.Goals as goal

pub returns-then-returned-clause-acts : goal.returns-then-returned-clause-acts
returns-then-returned-clause-acts c = rw c.if-returned.true (does_one (owner_in c.args.port_seat.now) (owner_in c.return_step.new.port_seat) (Return c.args.ty c.args.entry) c.return_step.result c.return_step.ensures.is.acts)

pub returns-else-returned-clause-acts : goal.returns-else-returned-clause-acts
returns-else-returned-clause-acts c = rw c.if-returned.false (does_one (owner_in c.args.port_seat.now) (owner_in c.spend_step.new.port_seat) (Spend c.args.ty c.args.entry) c.spend_step.result c.spend_step.ensures.is.acts)
