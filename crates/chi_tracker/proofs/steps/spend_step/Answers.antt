use Rattle.chi_tracker.specs.declared.step.AtomicStep.TheVariants.{Spend}
use Rattle.chi_tracker.specs.History.{port_in}
use Rattle.chi_tracker.proofs.Advance.{goes_learns}
use Rattle.chi_tracker.proofs.steps.spend_step.Goals as goal

pub returns-clause-held : goal.returns-clause-held
returns-clause-held c = (goes_learns (port_in c.args.port_seat.now.me) (Spend c.args.ty c.args.entry) c.clear_bits.result c.args.port_seat.now.me.0.history c.clear_bits.new.port_seat.me.0.history c.clear_bits.ensures.goes).0

pub returns-clause-due : goal.returns-clause-due
returns-clause-due c = (goes_learns (port_in c.args.port_seat.now.me) (Spend c.args.ty c.args.entry) c.clear_bits.result c.args.port_seat.now.me.0.history c.clear_bits.new.port_seat.me.0.history c.clear_bits.ensures.goes).1
