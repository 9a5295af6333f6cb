use Rattle.std.proofs.Common.{rules}
use Rattle.chi_audit.proofs.Stored.{stores}
use Rattle.chi_audit.proofs.cell.TallyCell.store.Goals as goal

pub swap_as-requires : goal.swap_as-requires
swap_as-requires g c = (search rules, (search rules, (search rules, stores _ _ _ c.requires.writes (search (rules, c.requires.later)))))
