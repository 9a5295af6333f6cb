use Rattle.std.proofs.Common.{rules}
use Rattle.chi_transactions.specs.Maps.{waiting_in}
use Rattle.chi_transactions.proofs.maps.waiting_in.Goals as goal

pub returns : goal.returns
unfolding waiting_in
returns g c = search rules
