use Rattle.chi_tracker.proofs.Together.{all_of_owners}
use Rattle.chi_tracker.proofs.tracker.Tracker.meet.Goals as goal

pub returns-clause-together : goal.returns-clause-together
returns-clause-together g c = all_of_owners c.args.self.now c.args.ports.now c.witness_of.result.history c.witness_of.ensures.some c.requires.own c.requires.all c.requires.numbers c.witness_of.ensures.after
