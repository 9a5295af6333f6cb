-- What a monitor of a line forgets, so that what it keeps has a fixed size (docs/TRACES.md, "A monitor").
use Rattle.std.specs.Prelude.{◌≡◌, ℕ, Bool, true, false, List, [], nat_le}
use Rattle.chi_monitor.specs.declared.line.Draft.{Draft}
use Rattle.chi_monitor.specs.declared.home_turns.Service.{Service}
use Rattle.chi_monitor.specs.declared.home_turns.Service.TheVariants.{Snooping}

abbrev pub is_snooping : Service → Bool
is_snooping (Snooping group) = true
is_snooping other = false

-- items are kept only until the completion that a group of snoops is for
abbrev pub IsForgotten : Service → List Draft → Type 0
IsForgotten (Snooping group) items = Unit {0}
IsForgotten other items = items ≡ []

-- from so many words on those that the line hasn't are forgotten
abbrev pub are_many : ℕ → Bool
are_many count = nat_le 512 count
