-- The reason for which it is set aside is the one that holds.
use Rattle.chi_observer.specs.Arrivals.{arrived}
use Rattle.chi_observe.specs.Judges.{before_of}
use Rattle.chi_observe.proofs.LateLemmas.{verdict_is}
use Rattle.chi_observe.proofs.judges.take_at_home.Goals as goal

pub returns-clause-verdict : goal.returns-clause-verdict
returns-clause-verdict c =
    verdict_is (before_of c.args.before.now) c.args.number (arrived c.args.arrivals.now) (arrived c.take.new.self) c.args.flit c.take.result c.take.ensures.outcome c.take.ensures.untaken
