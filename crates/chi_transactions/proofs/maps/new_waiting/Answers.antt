use Rattle.std.proofs.Common.{ap}
use Rattle.std.specs.Map.{lookup}
use Rattle.chi_transactions.specs.declared.entries.Place.{Place}
use Rattle.chi_transactions.specs.Maps.{is_same_place, waiting_in, nothing}
use Rattle.chi_transactions.proofs.maps.new_waiting.Goals as goal

pub returns : goal.returns
unfolding waiting_in nothing
returns g c = ap (λ entries (place : Place). lookup (is_same_place place) entries) c.new.ensures.empty
