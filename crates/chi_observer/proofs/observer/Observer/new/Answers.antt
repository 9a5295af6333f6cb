use Rattle.chi_observer.proofs.Lines.{watched_nothing}
use Rattle.chi_observer.proofs.observer.Observer.new.Goals as goal

pub returns : goal.returns
returns c = watched_nothing c.args.stores
