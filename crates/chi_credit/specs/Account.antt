-- A requester's account: its eight slots, counted by credit type and by entry (docs/PROTOCOL.md, "Slots
-- and accounts" and "A requester and its calls").
use Rattle.std.specs.Prelude.{◌≡◌, ◌≢◌, ℕ, ◌+◌, ◌<◌, ◌≤◌, List, length, slice_index, slice_set, replicate, count_by}
use Rattle.std.specs.List.{All, slice_index_or, position_or_len}
use Rattle.chi_flit.specs.Credit.{credit_number}
use Rattle.chi_tracker.specs.Views.{PortView, has}
use Rattle.chi_tracker.specs.Calls.{seen_of}
use Rattle.chi_credit.specs.declared.slot.SlotState.{SlotState}
use Rattle.chi_credit.specs.declared.slot.SlotState.TheVariants.{Idle}
use Rattle.chi_credit.specs.declared.slot.SlotRecord.{SlotRecord}
use Rattle.chi_credit.specs.Slot.{idle_slot, in_state, is_riding_of, is_cancelled_of, is_due_of, has_entry, IsFit}

-- what every account keeps: there are eight slots, and one is marked as answered only while it is Admitted
pub record IsAccount (slots : List SlotRecord) : Type 0 where
  pub eight : length slots ≡ 8
  pub fit : All IsFit slots

-- an account with eight free slots
abbrev pub all_idle : List SlotRecord
all_idle = replicate 8 idle_slot

-- slot s of an account
abbrev pub slot_record_at : List SlotRecord → ℕ → SlotRecord
slot_record_at slots s = slice_index_or slots s idle_slot

-- the state and the number of the credit type of slot s
abbrev pub state_at : List SlotRecord → ℕ → SlotState
state_at slots s = (slot_record_at slots s).state

abbrev pub type_at : List SlotRecord → ℕ → ℕ
type_at slots s = credit_number (slot_record_at slots s).credit

-- the state of slot s becomes another one
abbrev pub slots_with_state : List SlotRecord → ℕ → SlotState → List SlotRecord
slots_with_state slots s state = slice_set slots s (in_state state (slot_record_at slots s))

-- how many slots of type t are Riding
abbrev pub riding_of : List SlotRecord → ℕ → ℕ
riding_of slots t = count_by (is_riding_of t) slots

-- a spare credit of type t: more of the type are seen than its slots are Riding
abbrev pub HasSpare : List SlotRecord → ℕ → ℕ → Type 0
HasSpare slots t seen = riding_of slots t < seen

-- how many slots of type t are Refused, Retried, Riding or Cancelled
abbrev pub due_of : List SlotRecord → ℕ → ℕ
due_of slots t = count_by (is_due_of t) slots

-- how many slots are Admitted with entry e
abbrev pub holders_of : List SlotRecord → ℕ → ℕ
holders_of slots e = count_by (has_entry e) slots

-- the lowest Cancelled slot of type t; the number of slots where there is none
abbrev pub lowest_cancelled : List SlotRecord → ℕ → ℕ
lowest_cancelled slots t = position_or_len (is_cancelled_of t) slots

-- s is the lowest Idle slot
abbrev pub IsLowestIdle : List SlotRecord → ℕ → Type 0
IsLowestIdle slots s = (s < 8) × (state_at slots s ≡ Idle) × ((i : ℕ) → i < s → state_at slots i ≢ Idle)

-- counts: all the same
pub record IsSameSlot (f g : ℕ → ℕ) : Type 0 where
  pub same : (j : ℕ) → g j ≡ f j

-- one more at i, and all others the same
pub record GrowsAt (i : ℕ) (f g : ℕ → ℕ) : Type 0 where
  pub more : g i ≡ f i + 1
  pub others : (j : ℕ) → j ≢ i → g j ≡ f j

-- one less at i, and all others the same
pub record FallsAt (i : ℕ) (f g : ℕ → ℕ) : Type 0 where
  pub less : g i + 1 ≡ f i
  pub others : (j : ℕ) → j ≢ i → g j ≡ f j

-- how an account's counts change: its Riding slots and its credits due by type, and the holders of entries
pub record CountsMove (R D E : (ℕ → ℕ) → (ℕ → ℕ) → Type 0) (old new : List SlotRecord) : Type 0 where
  pub riding : R (riding_of old) (riding_of new)
  pub due : D (due_of old) (due_of new)
  pub entries : E (holders_of old) (holders_of new)

-- the Riding slots of each type are no more than the port's seen credits of the type
pub record IsWithinSeen (slots : List SlotRecord) (p : PortView) : Type 0 where
  pub within : (t : ℕ) → t < 4 → riding_of slots t ≤ seen_of p t

-- where a credit of type t was spare, the Riding slots are still within the seen credits
abbrev pub StaysWithinSeen : ℕ → List SlotRecord → List SlotRecord → Type 0
StaysWithinSeen t old new = (p : PortView) → HasSpare old t (seen_of p t) → IsWithinSeen old p → IsWithinSeen new p

-- the credits due of each type are those of the slots that are Refused, Retried, Riding or Cancelled
pub record HasDue (slots : List SlotRecord) (p : PortView) : Type 0 where
  pub due : (t : ℕ) → t < 4 → due_of slots t + (slice_index p.spent t + slice_index p.returned t) ≡ slice_index p.retries t

-- the entries of the Admitted slots are different, in the port's hand, and all that is there
pub record HasEntries (slots : List SlotRecord) (p : PortView) : Type 0 where
  pub entries : (e : ℕ) → has e p ≡ holders_of slots e

-- where the slots kept to the port's numbers before a call, they do after it
pub record StaysInStep (old : List SlotRecord) (p : PortView) (new : List SlotRecord) (q : PortView) : Type 0 where
  pub within : IsWithinSeen old p → IsWithinSeen new q
  pub credits : HasDue old p → HasDue new q
  pub hand : HasEntries old p → HasEntries new q
