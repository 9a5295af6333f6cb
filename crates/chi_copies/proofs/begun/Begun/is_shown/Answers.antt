-- It counts that the copy is filled by the home's own words.
use Rattle.chi_copies.specs.Rules.{shows}
use Rattle.chi_copies.specs.Sets.{members}
use Rattle.chi_copies.specs.BegunLines.{begun}
use Rattle.chi_copies.proofs.BegunTaken.{counts_same}
use Rattle.chi_copies.proofs.begun.Begun.is_shown.Goals as goal

pub returns : goal.returns
returns c = counts_same c.is_sure-sure.result ((begun c.args.self.now).sure c.args.flit.agent.0) (members c.may_of-may.result) ((begun c.args.self.now).seen.may c.args.flit.agent.0) (shows c.args.flit.grant) c.counts.result c.is_sure-sure.ensures c.may_of-may.ensures c.counts.ensures
