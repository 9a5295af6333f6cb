use Rattle.chi_tracker.specs.declared.step.AtomicStep.TheVariants.{Claim}
use Rattle.chi_tracker.specs.History.{port_in}
use Rattle.chi_tracker.proofs.Advance.{goes_learns}
use Rattle.chi_tracker.proofs.steps.claim_step.Goals as goal

pub returns-clause-held : goal.returns-clause-held
returns-clause-held c = goes_learns (port_in c.args.port_seat.now.me) (Claim c.args.ty c.args.entry) c.set_bits.result c.args.port_seat.now.me.0.history c.set_bits.new.port_seat.me.0.history c.set_bits.ensures.goes
