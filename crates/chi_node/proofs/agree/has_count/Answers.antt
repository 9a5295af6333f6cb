-- A slice is one of eight.
use Rattle.chi_node.proofs.Matches.{index_low}
use Rattle.chi_node.proofs.agree.has_count.Goals as goal

pub count-requires : goal.count-requires
count-requires g c = rw c.index.ensures (index_low c.args.slice.now c.journal.ensures.kept)
