use Rattle.chi_issue_b.proofs.Tables.{own, own_rows}
use Rattle.chi_issue_b.proofs.laws.each_opcode_has_one_row.Goals as goal

pub returns : goal.returns
returns c = record { own = own; each = own_rows }
