use Rattle.std.proofs.Common.{rules}
use Rattle.chi_transactions.specs.Maps.{entry_in}
use Rattle.chi_transactions.proofs.maps.entry_in.Goals as goal

pub returns : goal.returns
unfolding entry_in
returns g c = search rules
