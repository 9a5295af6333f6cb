use Rattle.std.proofs.Common.{rules}
use Rattle.chi_audit.proofs.Stored.{reads}
use Rattle.chi_audit.proofs.cell.TallyCell.read.Goals as goal

pub load_as-requires : goal.load_as-requires
load_as-requires g c = (search rules, (search rules, (search rules, reads _ _)))
