-- The free slot of the lowest number, as a place in the list of slots.
use Rattle.std.proofs.Common.{◌≡◌, ◌≢◌, ℕ, ◌<◌, ◌≤◌, true, false, List, length, refl, ap, arith}
use Rattle.std.specs.Prelude.{Option, Some, None, IfSome, IfNone, nat_lt}
use Rattle.std.specs.List.{position_or_len}
use Rattle.std.proofs.lemmas.List.Sums.{position_or_len_is}
use Rattle.std.proofs.lemmas.Bool.{lt-ltb}
use Rattle.chi_flit.specs.declared.numbers.Slot.{Slot}
use Rattle.chi_node.specs.Words.{SlotState, SlotRecord, idle_slot, is_idle_state, state_at, IsLowestIdle}
use Rattle.chi_node.specs.SlotStates.{Idle, Sent, Refused, Retried, Riding, Admitted, Closing, Cancelled}
use Rattle.chi_agent.specs.Choice.{is_idle_slot, lowest_idle_slot}

not_idle : (state : SlotState) → state ≢ Idle → is_idle_state state ≡ false
not_idle Idle ne = absurd (ne refl)
not_idle Sent ne = refl
not_idle Refused ne = refl
not_idle Retried ne = refl
not_idle Riding ne = refl
not_idle (Admitted entry) ne = refl
not_idle Closing ne = refl
not_idle Cancelled ne = refl

-- the first place that is free, or the number of slots
first_free : (slots : List SlotRecord) (s : ℕ) → s ≤ length slots → ((i : ℕ) → i < s → state_at slots i ≢ Idle) → (s < length slots → state_at slots s ≡ Idle) → position_or_len is_idle_slot slots ≡ s
first_free slots s l before here = position_or_len_is is_idle_slot slots s idle_slot l (λ k below. not_idle (state_at slots k) (before k below)) (λ there. ap is_idle_state (here there))

pub idle_found : (slots : List SlotRecord) (found : Option Slot) → length slots ≡ 8 → IfSome found (λ slot. IsLowestIdle slots slot.0) → IfNone found ((s : ℕ) → s < 8 → state_at slots s ≢ Idle) → found ≡ lowest_idle_slot slots
idle_found slots (Some slot) eight some none =
    let at : position_or_len is_idle_slot slots ≡ slot.0 = first_free slots slot.0 (omega (arith, some.0)) some.2 (λ _. some.1) in
    let within : nat_lt slot.0 (length slots) ≡ true = lt-ltb slot.0 (length slots) (omega (arith, some.0)) in
    rw at (rw within refl)
idle_found slots None eight some none =
    let at : position_or_len is_idle_slot slots ≡ 8 = first_free slots 8 (omega arith) none (λ l. absurd (omega arith)) in
    rw at (rw eight refl)

-- slot s is Idle
abbrev pub IdleAt : List SlotRecord → ℕ → Type 0
IdleAt slots s = state_at slots s ≡ Idle
