-- It counts that the copy is so.
use Rattle.std.specs.Prelude.{◌&&◌}
use Rattle.chi_copies.specs.Rules.{fills}
use Rattle.chi_copies.specs.Sets.{members}
use Rattle.chi_copies.specs.BegunLines.{begun}
use Rattle.chi_copies.proofs.BegunTaken.{counts_same}
use Rattle.chi_copies.proofs.begun.Begun.fills_stored.Goals as goal

pub returns : goal.returns
returns c = counts_same c.is_sure-sure.result ((begun c.args.self.now).sure c.args.flit.agent.0) (members c.may_of-may.result) ((begun c.args.self.now).seen.may c.args.flit.agent.0) (λ h. fills c.args.flit.grant h && h.stored) c.counts.result c.is_sure-sure.ensures c.may_of-may.ensures c.counts.ensures
