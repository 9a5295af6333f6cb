-- Only so much may be open.
use Rattle.chi_copies.proofs.BegunLines.{open_yet}
use Rattle.chi_copies.proofs.begun.Begun.with_open.Goals as goal

pub returns : goal.returns
returns c = open_yet c.args.stores c.due_before.result c.args.asked.now c.args.left.now c.due_before.ensures
