use Rattle.std.proofs.Common.{rules}
use Rattle.chi_audit.proofs.Stored.{opens}
use Rattle.chi_audit.proofs.cell.TallyCell.open.Goals as goal

pub ruled-requires : goal.ruled-requires
ruled-requires c = (search rules, (search rules, opens))
