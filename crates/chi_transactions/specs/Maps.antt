-- A table by number as a function, and one with another entry at a number.
use Rattle.std.specs.Prelude.{◌≡◌, ℕ, ◌==◌, ◌&&◌, Bool, nat_eq, Option, Some, None, slice_get}
use Rattle.std.specs.HashMap.{HashMap, get}
use Rattle.std.specs.Map.{update}
use Rattle.chi_transactions.specs.declared.entries.Place.{Place}
use Rattle.chi_transactions.specs.declared.entries.Waiting.{Waiting}
use Rattle.chi_transactions.specs.declared.maps.Slot.{Slot}

-- what a table has at a number, if anything
unfoldable pub entry_in : {V S : Type 0} → HashMap ℕ V S → ℕ → Option V
entry_in table = get nat_eq table

-- the same, with another entry at a number, or with none
unfoldable pub put : {V : Type 0} → (ℕ → Option V) → ℕ → Option V → ℕ → Option V
put entries number value = update nat_eq entries number value

-- the place of a number in a table, and what is there
abbrev pub IsSlot : {V S : Type 0} → HashMap ℕ V S → ℕ → Slot V → Type 0
IsSlot table number slot = slice_get table.entries slot.place ≡ Some (number, slot.value)

abbrev pub value_of : {V : Type 0} → Option (Slot V) → Option V
value_of None = None
value_of (Some slot) = Some slot.value

-- a table with nothing in it
unfoldable pub nothing : {K V : Type 0} → K → Option V
nothing key = None

-- the same of requests that wait, by their places
abbrev pub is_same_place : Place → Place → Bool
is_same_place one other = one.requester == other.requester && one.line == other.line

unfoldable pub waiting_in : {S : Type 0} → HashMap Place Waiting S → Place → Option Waiting
waiting_in table = get is_same_place table

unfoldable pub put_waiting : (Place → Option Waiting) → Place → Option Waiting → Place → Option Waiting
put_waiting entries place value = update is_same_place entries place value
