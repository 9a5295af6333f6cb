use Rattle.std.proofs.Common.{rules}
use Rattle.chi_audit.proofs.Stored.{watches}
use Rattle.chi_audit.proofs.cell.TallyCell.watch.Goals as goal

pub split_pass-requires : goal.split_pass-requires
split_pass-requires c = (search rules, (search rules, (search rules, watches _ _)))
