-- The moments behind it.
use Rattle.chi_observer.specs.Arrivals.{arrived}
use Rattle.chi_observer.specs.Lines.{watch, watched}
use Rattle.chi_observer.specs.declared.flits.Flit.TheVariants.{Up}
use Rattle.chi_observer.proofs.Received.{answered_as}
use Rattle.chi_observer.proofs.arrivals.Arrivals.answered.Goals as goal

pub returns-clause-after : goal.returns-clause-after
returns-clause-after c =
    answered_as (arrived c.args.self.now) c.take.new.self (watch (watched c.args.before) (Up c.args.sent)) c.args.sent c.from-at.result c.surely_shown-shown.result
    c.from-at.ensures c.in_default.ensures.after c.surely_shown-shown.ensures
