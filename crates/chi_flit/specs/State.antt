-- Cache states: which hold a copy, hold it alone, owe memory its value (Arm IHI 0050 B, chapter 4; docs/PROTOCOL.md,
-- "What is taken from the standard").
use Rattle.std.specs.Prelude.{ℕ, List, Bool, true, false, codes, Option, Some, None, ◌==◌, if◌then◌else◌}
use Rattle.chi_flit.specs.declared.state.State.{State}
use Rattle.chi_flit.specs.declared.state.State.TheVariants.{I, SC, UC, UD, SD}

abbrev pub is_valid : State → Bool
is_valid I = false
is_valid other = true

abbrev pub is_unique : State → Bool
is_unique UC = true
is_unique UD = true
is_unique other = false

abbrev pub is_dirty : State → Bool
is_dirty UD = true
is_dirty SD = true
is_dirty other = false

abbrev pub state_text : State → List ℕ
state_text I = codes "I"
state_text SC = codes "SC"
state_text UC = codes "UC"
state_text UD = codes "UD"
state_text SD = codes "SD"

-- numbered in this order, as files and interfaces for programs have it (docs/LIBRARY.md, "Numbers")
abbrev pub state_number : State → ℕ
state_number I = 0
state_number SC = 1
state_number UC = 2
state_number UD = 3
state_number SD = 4

abbrev pub state_numbered : ℕ → Option State
state_numbered n =
    if n == 0 then Some I else (
    if n == 1 then Some SC else (
    if n == 2 then Some UC else (
    if n == 3 then Some UD else (
    if n == 4 then Some SD else None))))
