use Rattle.std.proofs.Math.Path.{fun_ext}
use Rattle.chi_transactions.specs.Maps.{entry_in, put}
use Rattle.chi_transactions.proofs.maps.remove.Goals as goal

pub returns : goal.returns
unfolding entry_in put
returns g c = fun_ext c.swap_remove.ensures.updates.0
