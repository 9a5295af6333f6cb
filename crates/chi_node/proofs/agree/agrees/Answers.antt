-- Agreement is agreement by the rows of the table.
use Rattle.std.proofs.Common.{◌↔◌}
use Rattle.chi_node.specs.Agree.{Agree}
use Rattle.chi_node.specs.Table.{AgreeByTable}
use Rattle.chi_node.proofs.AgreeRows.{agree_by_table}
use Rattle.chi_node.proofs.agree.agrees.Goals as goal

pub returns-clause-table : goal.returns-clause-table
returns-clause-table g c =
    let same : Agree c.args.slice.now c.args.requester.now ↔ AgreeByTable c.args.slice.now c.args.requester.now = agree_by_table c.args.slice.now c.args.requester.now c.is_open.ensures.slice c.is_open.ensures.requester.near in
    (λ t. same.0 (c.is_open.ensures.agree.0 t), λ a. c.is_open.ensures.agree.1 (same.1 a))
