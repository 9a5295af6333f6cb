-- A slice: the lines l with l mod slices = index, each in a row (docs/PROTOCOL.md, "One line" and
-- "The actions").
use Rattle.std.specs.Prelude.{◌≡◌, ◌≢◌, ℕ, ◌+◌, ◌-◌, ◌/◌, ◌%◌, ◌<◌, List, [], ◌∷◌, Bool, true}
use Rattle.std.specs.Prelude.{Result, IfOk, OnOk, false, ◌&&◌, ◌==◌, nat_lt, Option, Some, None}
use Rattle.std.specs.Prelude.{length, replicate, slice_set, if◌then◌else◌}
use Rattle.std.specs.List.{list_any, slice_index_or}
use Rattle.chi_flit.specs.declared.numbers.Slot.{Slot}
use Rattle.chi_flit.specs.declared.action.Action.{Action}
use Rattle.chi_flit.specs.declared.action.Step.{Step}
use Rattle.chi_flit.specs.declared.action.Effect.{Effect}
use Rattle.chi_flit.specs.declared.refusal.Refusal.{Refusal}
use Rattle.chi_flit.specs.declared.refusal.Refusal.TheVariants.{OutOfRange}
use Rattle.chi_flit.specs.Refusal.{refusal_of}
use Rattle.chi_journal.specs.declared.record.Record.{Record}
use Rattle.chi_journal.specs.Journal.{IsLegalLog, Log, LogKept, line_words, log_with, is_full, opening_log}
use Rattle.chi_flit.specs.Config.{Sizes, are_in_limits}
use Rattle.chi_line.specs.LineState.{LineState, opening_line}
use Rattle.chi_line.specs.declared.act.Conditions.{Conditions}
use Rattle.chi_line.specs.declared.position.ActionOutcome.{ActionOutcome}
use Rattle.chi_line.specs.Step.{after, effect_of, is_step_in_range, issued_slot, line_uses, record_of}
use Rattle.chi_line.specs.Moves.{moved_slot, moved_to}
use Rattle.chi_line.specs.Refused.{line_refusal}
use Rattle.chi_line.specs.Traffic.{KeepsFlits}
use Rattle.chi_line.specs.Kept.{Kept}

pub record SliceState : Type 0 where
  pub config : Sizes
  pub index : ℕ
  pub lines : List LineState
  pub journal : Log

-- the slice of these parts
abbrev pub slice_with : Sizes → ℕ → List LineState → Log → SliceState
slice_with config index lines journal = record { config = config; index = index; lines = lines; journal = journal }

-- how many of the node's lines are in a slice
abbrev pub row_count : Sizes → ℕ → ℕ
row_count config index = (config.lines - 1 - index) / config.slices + 1

-- a slice in the opening state
abbrev pub opening_slice : Sizes → ℕ → SliceState
opening_slice config index = slice_with config index (replicate (row_count config index) opening_line) (opening_log config.lines config.journal)

-- the line in a row
abbrev pub line_in_row : SliceState → ℕ → LineState
line_in_row s row = slice_index_or s.lines row opening_line

-- the row of a line
abbrev pub row_of_line : SliceState → ℕ → ℕ
row_of_line s l = l / s.config.slices

-- the line l
abbrev pub line : SliceState → ℕ → LineState
line s l = line_in_row s (row_of_line s l)

-- whether an agent's slot is in use at any line of the slice
abbrev pub uses : SliceState → ℕ → Slot → Bool
uses s n slot = list_any (λ l. line_uses l n slot) s.lines

-- whether a line is in the slice
abbrev pub is_line_in_range : SliceState → ℕ → Bool
is_line_in_range s l = nat_lt l s.config.lines && (l % s.config.slices == s.index)

-- whether an agent is in the node, and a line in the slice
abbrev pub are_in_range : SliceState → ℕ → ℕ → Bool
are_in_range s n l = nat_lt n s.config.agents && is_line_in_range s l

-- whether the numbers of an action are in their ranges, and its line in the slice
abbrev pub is_in_range : SliceState → Action → Bool
is_in_range s action = nat_lt action.agent.0 s.config.agents && (is_line_in_range s action.line.0 && is_step_in_range action.step)

-- the row of line l, in which agent n can act: both are there
pub record IsRowOf (s : SliceState) (n l row : ℕ) : Type 0 where
  pub is : row ≡ row_of_line s l
  pub low : row < length s.lines
  pub agent : n < 8
  pub inside : are_in_range s n l ≡ true

-- whether the slot that a step names, if it names one, is in use
abbrev pub uses_named : SliceState → ℕ → Option Slot → Bool
uses_named s n None = false
uses_named s n (Some slot) = uses s n slot

abbrev pub is_slot_used : SliceState → ℕ → Step → Bool
is_slot_used s n step = uses_named s n (issued_slot step)

-- a credit of each type
abbrev pub each_credit : List Bool
each_credit = replicate 4 true

-- why an action is refused for its numbers alone
abbrev pub range_refusal : SliceState → Action → Option Refusal
range_refusal s action = if is_in_range s action then None else Some OutOfRange

-- what an action has to know of the slice beside its line, with these credits
abbrev pub conditions_under : List Bool → SliceState → Action → Conditions
conditions_under credits s action = record {
  slot_used = is_slot_used s action.agent.0 action.step;
  journal_full = is_full s.journal;
  credits = credits;
  profile = s.config.profile;
}

-- why an action is refused with these credits: 10, then the numbers of its row in the table of the actions
abbrev pub refused_under : List Bool → SliceState → Action → Option Refusal
refused_under credits s action =
    if is_in_range s action then line_refusal (conditions_under credits s action) (line s action.line.0) action else Some OutOfRange

-- why an action is refused by the slice alone
abbrev pub action_refusal : SliceState → Action → Option Refusal
action_refusal s action = refused_under each_credit s action

-- the slice with another line in a row
abbrev pub with_line : SliceState → ℕ → LineState → SliceState
with_line s row new = record s { lines = slice_set s.lines row new }

-- the journal with one more record, or none
abbrev pub log_after : Log → Option Record → Log
log_after log None = log
log_after log (Some entry) = log_with log entry

-- the record of an action that is done
abbrev pub entry_of : SliceState → Action → Option Record
entry_of s action = record_of (line s action.line.0) action

-- the slot whose request an action moves
abbrev pub moved_by : SliceState → Action → Option Slot
moved_by s action = moved_slot (line s action.line.0) action.agent action.step

-- what an action that is done leaves: its line by its step, and the journal with its record
abbrev pub slice_after : SliceState → Action → SliceState
slice_after s action =
    record (with_line s (row_of_line s action.line.0) (after s.config.profile (line s action.line.0) action))
    { journal = log_after s.journal (entry_of s action) }

-- of the representation: no flit of its line is lost or made by an action: those in flight then, with the one that it takes, are those
-- before, with those that it sends
abbrev pub KeepsSliceFlits : SliceState → Action → SliceState → Type 0
KeepsSliceFlits old action new = KeepsFlits old.config.profile (line old action.line.0) action (line new action.line.0)

-- all lines of a slice but one are as before
abbrev pub OtherLinesStay : SliceState → SliceState → ℕ → Type 0
OtherLinesStay old new l = (other : ℕ) → is_line_in_range old other ≡ true → other ≢ l → line new other ≡ line old other

-- an action that is tried: refused, it changes nothing
abbrev pub tried_as : Option Refusal → SliceState → Action → SliceState
tried_as None s action = slice_after s action
tried_as (Some refusal) s action = s

abbrev pub slice_after_try : SliceState → Action → SliceState
slice_after_try s action = tried_as (action_refusal s action) s action

-- of the representation, for callers that compute with it: what an action that is tried answers and leaves
pub record Computed (old : SliceState) (action : Action) (result : Result Effect Refusal) (new : SliceState) : Type 0 where
  pub refusal : refusal_of result ≡ action_refusal old action
  pub effect : IfOk result (λ effect. effect ≡ effect_of (line old action.line.0) action)
  pub journal : OnOk result (new.journal ≡ log_after old.journal (entry_of old action))
  pub flits : OnOk result (KeepsSliceFlits old action new)
  pub after : OnOk result (new ≡ slice_after old action)

-- the same with the credits of a requester, and the slot of the request that the action moves, and where to
pub record ComputedUnder (credits : List Bool) (old : SliceState) (action : Action) (result : Result ActionOutcome Refusal) (new : SliceState) : Type 0 where
  pub refusal : refusal_of result ≡ refused_under credits old action
  pub effect : IfOk result (λ outcome. outcome.effect ≡ effect_of (line old action.line.0) action)
  pub slot : IfOk result (λ outcome. outcome.slot ≡ moved_by old action)
  pub to : IfOk result (λ outcome. outcome.to ≡ moved_to (line old action.line.0) action.agent action.step)
  pub journal : OnOk result (new.journal ≡ log_after old.journal (entry_of old action))
  pub flits : OnOk result (KeepsSliceFlits old action new)
  pub after : OnOk result (new ≡ slice_after old action)

-- a run of actions, each tried in turn
abbrev pub run_after : SliceState → List Action → SliceState
run_after s [] = s
run_after s (action ∷ actions) = run_after (slice_after_try s action) actions

-- why a line can't be looked at
abbrev pub view_refusal : SliceState → ℕ → Option Refusal
view_refusal s l = if is_line_in_range s l then None else Some OutOfRange

-- why an agent's flits at a line can't be looked at
abbrev pub flits_refusal : SliceState → ℕ → ℕ → Option Refusal
flits_refusal s n l = if are_in_range s n l then None else Some OutOfRange

-- the values last stored to the words of a line
abbrev pub last_of : SliceState → ℕ → List ℕ
last_of s l = line_words s.journal l

-- what a slice keeps: each of its lines keeps what a line keeps, with the values last stored to it by the
-- journal, and each load in the journal had the value last stored before it
pub record SliceKept (s : SliceState) : Type 0 where
  pub config : are_in_limits s.config ≡ true
  pub index : s.index < s.config.slices
  pub rows : length s.lines ≡ row_count s.config s.index
  pub lines : (l : ℕ) → is_line_in_range s l ≡ true → Kept (last_of s l) (line s l)
  pub journal_lines : s.journal.lines ≡ s.config.lines
  pub journal_limit : s.journal.limit ≡ s.config.journal
  pub journal : LogKept s.journal
  pub legal : IsLegalLog s.journal
