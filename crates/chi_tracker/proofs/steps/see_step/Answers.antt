use Rattle.chi_tracker.specs.declared.step.AtomicStep.TheVariants.{See}
use Rattle.chi_tracker.specs.History.{port_in}
use Rattle.chi_tracker.proofs.Advance.{goes_learns}
use Rattle.chi_tracker.proofs.steps.see_step.Goals as goal

pub returns-clause-more : goal.returns-clause-more
returns-clause-more c = goes_learns (port_in c.args.port_seat.now.me) (See c.args.part) c.load_word.result c.args.port_seat.now.me.0.history c.load_word.new.port_seat.me.0.history c.load_word.ensures.goes
