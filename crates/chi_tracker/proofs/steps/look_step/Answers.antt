use Rattle.chi_tracker.specs.declared.step.AtomicStep.TheVariants.{Note}
use Rattle.chi_tracker.specs.History.{port_in}
use Rattle.chi_tracker.proofs.Advance.{goes_learns}
use Rattle.std.proofs.Common.{arith}
use Rattle.chi_tracker.proofs.Places.{clear_place}
use Rattle.chi_tracker.proofs.steps.look_step.Goals as goal

pub returns-clause-few : goal.returns-clause-few
returns-clause-few c =
    let told = goes_learns (port_in c.args.port_seat.now.me) (Note c.args.ty) c.load_word.result c.args.port_seat.now.me.0.history c.load_word.new.port_seat.me.0.history c.load_word.ensures.goes in
    let h = clear_place c.args.ty c.load_word.result (omega (arith, c.requires.may.1, told)) in (h.0, h.1)
