-- An action on a slice by the protocol alone: what refuses it, and what it does (docs/PROTOCOL.md, "The actions",
-- "Refusals" and "One line").
use Rattle.std.specs.Prelude.{◌≡◌, ℕ, List, [], Bool, true, false, not, Option, Some, None, get_or}
use Rattle.std.specs.List.{list_any, slice_index_or}
use Rattle.std.specs.Option.{option_or}
use Rattle.chi_flit.specs.declared.numbers.Agent.{Agent}
use Rattle.chi_flit.specs.declared.numbers.Slot.{Slot}
use Rattle.chi_flit.specs.declared.numbers.WordNo.{WordNo}
use Rattle.chi_flit.specs.declared.action.Action.{Action}
use Rattle.chi_flit.specs.declared.action.Effect.{Effect}
use Rattle.chi_flit.specs.declared.action.Effect.TheVariants.{Completed, Value}
use Rattle.chi_flit.specs.declared.action.Step.{Step}
use Rattle.chi_flit.specs.declared.action.Step.TheVariants as steps
use Rattle.chi_flit.specs.declared.credit.Profile.{Profile}
use Rattle.chi_flit.specs.declared.refusal.Refusal.{Refusal}
use Rattle.chi_flit.specs.declared.refusal.Refusal.TheVariants.{NoCredit, OutOfRange}
use Rattle.chi_flit.specs.Credit.{credit_number, credit_type_of}
use Rattle.chi_journal.specs.declared.record.Record.{Record}
use Rattle.chi_journal.specs.Journal.{is_full}
use Rattle.chi_line.specs.Law.{IsSame}
use Rattle.chi_line.specs.LineState.{LineState}
use Rattle.chi_line.specs.Meaning.{standing_of}
use Rattle.chi_line.specs.Protocol.{LineStep, Standing, opening}
use Rattle.chi_line.specs.RefusalRows.{HasRoom, Room, refusal_row, refused_if, uses_slot}
use Rattle.chi_rnline.specs.declared.pending.Pending.{Pending}
use Rattle.chi_slice.specs.Slice.{SliceState, is_in_range, is_line_in_range, last_of, line, log_after}

-- a slice in the opening state: each of its lines is, and its journal has no record
pub record IsOpening (s : SliceState) : Type 0 where
  pub lines : (l : ℕ) → is_line_in_range s l ≡ true → standing_of (line s l) ≡ opening
  pub journal : s.journal.entries ≡ []

-- the action takes its line by its row, with this effect, and the journal grows by its record
abbrev pub SliceStep : SliceState → Action → Effect → SliceState → Type 0
SliceStep old action effect new =
    (entry : Option Record) × (new.journal ≡ log_after old.journal entry)
    × LineStep old.config.profile action.line action.agent action.step
    (standing_of (line old action.line.0)) effect entry (standing_of (line new action.line.0))

-- whether the slot that a step names is in use at any line of the slice
abbrev pub uses_own_slot : SliceState → Agent → Step → Bool
uses_own_slot s n (steps.Issue kind slot) = list_any (λ (l : LineState). uses_slot (standing_of l) n slot) s.lines
uses_own_slot s n other = false

abbrev pub room_for : SliceState → Agent → Step → Room
room_for s n step = record { journal_full = is_full s.journal; slot_used = uses_own_slot s n step }

-- Refused: 10 for a number outside its range, and then the first refusal of the action's row whose condition holds
abbrev pub refused : SliceState → Action → Option Refusal
refused s action =
    refused_if (not (is_in_range s action)) OutOfRange
    (refusal_row (room_for s action.agent action.step) (standing_of (line s action.line.0)) action.agent action.step)

-- WITH THE CREDITS OF A REQUESTER: a Resend is refused 12 without a credit of the type of the request that is pending,
-- where nothing else refuses it
abbrev pub lacks_credit_of : List Bool → Profile → Option Pending → Bool
lacks_credit_of credits profile None = false
lacks_credit_of credits profile (Some p) = not (slice_index_or credits (credit_number (credit_type_of profile p.kind)) false)

abbrev pub lacks_credit : List Bool → Profile → Option Pending → Step → Bool
lacks_credit credits profile pending steps.Resend = lacks_credit_of credits profile pending
lacks_credit credits profile pending other = false

abbrev pub refused_with : List Bool → SliceState → Action → Option Refusal
refused_with credits s action =
    option_or (refused s action)
    (refused_if (lacks_credit credits s.config.profile ((standing_of (line s action.line.0)).pending action.agent) action.step) NoCredit None)

-- a load that is done has the value last stored to its word
abbrev pub HasLastValue : SliceState → Action → Effect → Type 0
HasLastValue s action effect = (word : WordNo) → action.step ≡ steps.Load word → effect ≡ Value (get_or (last_of s action.line.0) word.0 0)

-- an action is enabled where its numbers are in their ranges, there is room for it, and its line has a step by it
pub record IsEnabled (s : SliceState) (action : Action) : Type 0 where
  pub inside : is_in_range s action ≡ true
  pub room : HasRoom (room_for s action.agent action.step) action.step
  pub row : (effect : Effect) × (entry : Option Record) × (new : Standing)
      × LineStep s.config.profile action.line action.agent action.step (standing_of (line s action.line.0)) effect entry new

-- an action would complete the request of a slot: nothing refuses it, and it takes its line by its row with that effect
pub record WouldComplete (s : SliceState) (action : Action) (slot : Slot) : Type 0 where
  pub allowed : refused s action ≡ None
  pub step : (new : SliceState) × SliceStep s action (Completed slot) new

-- what an action leaves of a slice is one: one effect, one journal and one line, up to the order of its flits
abbrev pub LeavesOne : SliceState → Action → Effect → Effect → SliceState → SliceState → Type 0
LeavesOne old action effect effect' new new' =
    (effect ≡ effect') × (new.journal ≡ new'.journal)
    × IsSame (standing_of (line new action.line.0)) (standing_of (line new' action.line.0))
