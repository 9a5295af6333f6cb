use Rattle.std.proofs.Common.{rules, ◌≡◌, length}
use Rattle.std.proofs.Math.Path.{fun_ext}
use Rattle.chi_transactions.specs.Maps.{put_waiting, waiting_in}
use Rattle.chi_transactions.proofs.Slots.{none_waits}
use Rattle.chi_transactions.proofs.maps.wait_no_more.Goals as goal

pub returns-then-not-is_empty : goal.returns-then-not-is_empty
unfolding waiting_in put_waiting
returns-then-not-is_empty g c = fun_ext c.swap_remove.ensures.updates.0

pub returns-else-not-is_empty : goal.returns-else-not-is_empty
unfolding waiting_in put_waiting
returns-else-not-is_empty g c =
    let none : length c.args.table.now.entries ≡ 0 = search rules in
    fun_ext (none_waits c.args.table.now.entries none c.args.place)
