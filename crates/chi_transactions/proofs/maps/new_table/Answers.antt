use Rattle.std.proofs.Common.{ℕ, nat_eq, ap}
use Rattle.std.specs.Map.{lookup}
use Rattle.chi_transactions.specs.Maps.{entry_in, nothing}
use Rattle.chi_transactions.proofs.maps.new_table.Goals as goal

pub returns : goal.returns
unfolding entry_in nothing
returns g c = ap (λ entries (n : ℕ). lookup (nat_eq n) entries) c.new.ensures.empty
