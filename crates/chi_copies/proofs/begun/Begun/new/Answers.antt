-- Nothing is known.
use Rattle.std.proofs.Common.{◌∙◌}
use Rattle.chi_copies.proofs.BegunLines.{nothing_yet}
use Rattle.chi_copies.proofs.begun.Begun.new.Goals as goal

pub returns : goal.returns
returns c = c.with_open.ensures ∙ nothing_yet c.args.stores
