-- The calls for a whole requester on a slice: when they are refused, and what they leave (docs/PROTOCOL.md,
-- "A requester and its calls").
use Rattle.std.specs.Prelude.{◌≡◌, ◌≢◌, ◌++◌, ◌∷◌, [], slice_index, ◌≤◌, ℕ, ◌⊎◌, Bool, false, true, Option, Some, None, length, Result, IfOk, OnErr, OnOk}
use Rattle.chi_flit.specs.declared.action.Action.{Action}
use Rattle.chi_flit.specs.declared.action.Step.{Step}
use Rattle.chi_flit.specs.declared.action.Step.TheVariants as steps
use Rattle.chi_flit.specs.declared.action.Effect.TheVariants.{Nothing}
use Rattle.chi_flit.specs.declared.message.Request.{Request}
use Rattle.chi_flit.specs.declared.numbers.Line.{Line}
use Rattle.chi_flit.specs.declared.refusal.Refusal.{Refusal}
use Rattle.chi_flit.specs.declared.refusal.Refusal.TheVariants.{NotOpen}
use Rattle.chi_slice.specs.Words.{cells_of, counted, effect_of, keeps_records, part_count, part_of, record_of, IsLegalLog, Record}
use Rattle.chi_slice.specs.Protocol.{SliceStep}
use Rattle.chi_slice.specs.Slice.{SliceKept, SliceState, slice_after, line, moved_by}
use Rattle.chi_slice.specs.Index.{SlotsInRange}
use Rattle.chi_node.specs.declared.answers.Arrived.{Arrived}
use Rattle.chi_node.specs.declared.answers.Arrived.TheVariants.{Admitted, Retried}
use Rattle.chi_node.specs.declared.answers.Stepped.{Stepped}
use Rattle.chi_node.specs.Requester.{IsRunning, RequesterKept, RequesterState}
use Rattle.chi_node.specs.Agree.{KeepsAgreement}
use Rattle.chi_node.specs.Arrives.{Arrives}
use Rattle.chi_node.specs.AfterStep.{Finishes, StepPlace, place_in}

-- why a call is refused: for this reason, or else by 11 exactly where the requester doesn't agree
abbrev pub OrNotOpen : Option Refusal → Type 0 → Option Refusal → Type 0
OrNotOpen (Some refusal) Agrees answer = answer ≡ Some refusal
OrNotOpen None Agrees answer = (Agrees × (answer ≡ None)) ⊎ ((Agrees → ⊥) × (answer ≡ Some NotOpen))

-- what the slice does where a request arrives
abbrev pub arrival_step : Arrived → Step
arrival_step (Admitted entry) = steps.Admit
arrival_step (Retried ty) = steps.Retry

abbrev pub arrival_action : ℕ → Line → Arrived → Action
arrival_action n l arrived = record { agent = record { 0 = n }; line = l; step = arrival_step arrived }

-- the request that is in flight arrived
abbrev pub ArrivesAt : Option Request → Arrived → RequesterState → RequesterState → Type 0
ArrivesAt None arrived old new = ⊥
ArrivesAt (Some request) arrived old new = Arrives request.allow_retry request.slot.0 arrived old new

-- where an action is done
abbrev pub place_at : SliceState → Action → StepPlace
place_at s action = place_in s action.line (moved_by s action)

-- what a step that is done leaves of the slice, by its row of the protocol, and of its requester, and what is answered
pub record StepsTo (s s' : SliceState) (action : Action) (r r' : RequesterState) (stepped : Stepped) : Type 0 where
  pub protocol : SliceStep s action stepped.effect s'
  pub slice : s' ≡ slice_after s action
  pub effect : stepped.effect ≡ effect_of (line s action.line.0) action
  pub requester : Finishes (place_at s action) action.step stepped.effect stepped.released r r'

-- a step is any but those of an arrival
abbrev pub is_own_step : Step → Bool
is_own_step steps.Admit = false
is_own_step steps.Retry = false
is_own_step other = true

-- what every slice and every requester keep
pub record BothKept (s : SliceState) (r : RequesterState) : Type 0 where
  pub slice : SliceKept s
  pub slots : SlotsInRange s
  pub within : length s.journal.entries ≤ s.journal.limit
  pub requester : RequesterKept r.port.shape.sizes r

-- what an arrival leaves of the slice, by its row of the protocol, and of its requester
pub record ArrivesOn (s s' : SliceState) (l : Line) (r r' : RequesterState) (arrived : Arrived) : Type 0 where
  pub protocol : SliceStep s (arrival_action r.number l arrived) Nothing s'
  pub slice : s' ≡ slice_after s (arrival_action r.number l arrived)
  pub requester : ArrivesAt (cells_of (line s l.0) r.number).req arrived r r'

-- a requester stays that of its number and of its tracker
pub record IsSameRequester (r r' : RequesterState) : Type 0 where
  pub number : r'.number ≡ r.number
  pub table : r'.table ≡ r.table
  pub shape : r'.port.shape ≡ r.port.shape

-- a slice stays that of its node and its index
pub record IsSameSlice (s s' : SliceState) : Type 0 where
  pub config : s'.config ≡ s.config
  pub index : s'.index ≡ s.index

-- one legal history: the record of a load or a store that is done is the last of its agent's part, where records
-- are kept, and the count for the slice, one more than before, is its place there; the counts for other slices stay,
-- and each load had the value last stored before it
pub record CountsStep (s s' : SliceState) (action : Action) (r r' : RequesterState) : Type 0 where
  pub part : keeps_records s.journal ≡ true → (entry : Record) → record_of (line s action.line.0) action ≡ Some entry
      → part_of s'.journal.entries r.number ≡ part_of s.journal.entries r.number ++ entry ∷ []
  pub counted : (entry : Record) → record_of (line s action.line.0) action ≡ Some entry → slice_index r'.counts s.index ≡ counted (slice_index r.counts s.index)
  pub uncounted : record_of (line s action.line.0) action ≡ None → slice_index r'.counts s.index ≡ slice_index r.counts s.index
  pub place : slice_index r'.counts s.index ≡ part_count s'.journal r.number
  pub others : (other : ℕ) → other ≢ s.index → slice_index r'.counts other ≡ slice_index r.counts other
  pub legal : IsLegalLog s'.journal

-- what a call leaves, whatever it answers: whoever agreed with the slice agrees with it still, slice and
-- requester stay those of their node, and the port is one that a legal history leaves
pub record StaysOpen (s s' : SliceState) (r r' : RequesterState) : Type 0 where
  pub agreement : KeepsAgreement s s' r r'
  pub same : IsSameRequester r r'
  pub slice : IsSameSlice s s'
  pub running : IsRunning r → IsRunning r'

-- an arrival did this, or it was refused and nothing changed
pub record DoesArrival (s s' : SliceState) (l : Line) (r r' : RequesterState) (result : Result Arrived Refusal) : Type 0 where
  pub ok : IfOk result (λ arrived. ArrivesOn s s' l r r' arrived)
  pub err : OnErr result ((s' ≡ s) × (r' ≡ r))
  pub kept : StaysOpen s s' r r'

-- and a step
pub record DoesStep (s s' : SliceState) (action : Action) (r r' : RequesterState) (result : Result Stepped Refusal) : Type 0 where
  pub ok : IfOk result (λ stepped. StepsTo s s' action r r' stepped)
  pub history : OnOk result (CountsStep s s' action r r')
  pub err : OnErr result ((s' ≡ s) × (r' ≡ r))
  pub kept : StaysOpen s s' r r'
