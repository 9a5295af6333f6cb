-- It is what the observer keeps then.
use Rattle.std.proofs.Common.{ap, ◌∙◌}
use Rattle.chi_copies.specs.Observed.{loose}
use Rattle.chi_observer.specs.declared.flits.Flit.TheVariants.{Up}
use Rattle.chi_copies.specs.Lines.{observed, shown_at}
use Rattle.chi_copies.proofs.Lines.{shown_is}
use Rattle.chi_copies.proofs.line.Line.take.Goals as goal

pub returns-in-Some-clause-after : goal.returns-in-Some-clause-after
returns-in-Some-clause-after c = c.loosen.ensures.after ∙ ap (loose c.args.flit.agent.0) c.move_to.ensures.after

pub returns-in-Some-clause-moments : goal.returns-in-Some-clause-moments
returns-in-Some-clause-moments c = λ n. ap (λ s. shown_at s n) c.loosen.ensures.shown
    ∙ shown_is c.move_to.new.self (observed c.args.self.now) (Up c.args.flit) c.issuer_of.result c.args.self.now.shown c.shown_behind-self.result n c.move_to.ensures.after c.move_to.ensures.shown (c.issuer_of.ensures n) (c.shown_behind-self.ensures n)
