-- Each of them is so.
use Rattle.chi_copies.specs.Sets.{members}
use Rattle.chi_copies.proofs.Counted.{counts_by}
use Rattle.chi_copies.proofs.certain.counts.Goals as goal

pub returns-else-sure : goal.returns-else-sure
returns-else-sure c = counts_by c.args.sure (members c.args.set) (members c.args.of) (members c.others.result) c.meets-else-sure.result c.if-sure.false c.meets-else-sure.ensures c.others.ensures
