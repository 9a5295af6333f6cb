use Rattle.chi_observer.specs.Lines.{watched}
use Rattle.chi_observer.proofs.Received.{arrived_nothing}
use Rattle.chi_observer.proofs.arrivals.Arrivals.new.Goals as goal

pub returns : goal.returns
returns c = arrived_nothing (watched c.new.result) c.nothing.result c.new.ensures c.nothing.ensures
