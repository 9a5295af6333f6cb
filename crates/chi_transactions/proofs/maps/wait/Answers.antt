use Rattle.std.proofs.Math.Path.{fun_ext}
use Rattle.chi_transactions.specs.Maps.{put_waiting, waiting_in}
use Rattle.chi_transactions.proofs.maps.wait.Goals as goal

pub returns : goal.returns
unfolding waiting_in put_waiting
returns g c = fun_ext c.in_ok-insert.ensures.updates.0
