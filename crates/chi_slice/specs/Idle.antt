-- The lowest slot of an agent that is free in a slice (docs/PROTOCOL.md, "Slots and accounts").
use Rattle.std.specs.Prelude.{ℕ}
use Rattle.std.specs.List.{prefix_len, range_with_len}
use Rattle.chi_flit.specs.Numbers.{slot_at}
use Rattle.chi_flit.specs.declared.numbers.Slot.{Slot}
use Rattle.chi_slice.specs.Slice.{SliceState, uses}

-- behind the slots from 0 on that are in use at some line; 8 where all eight are
abbrev pub lowest_idle : SliceState → ℕ → Slot
lowest_idle s n = slot_at (prefix_len (λ k. uses s n (slot_at k)) (range_with_len 0 8))
