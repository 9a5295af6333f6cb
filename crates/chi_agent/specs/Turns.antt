-- What a turn does of its choice, and what the script makes of the answer (docs/FORMATS.md, "A turn").
use Rattle.std.specs.Prelude.{◌≡◌, ℕ, ◌+◌, ◌-◌, ◌^◌, ◌<◌, Bool, true, false, List, [], ◌⊎◌, remove, slice_set, Option, Some, None, min}
use Rattle.chi_flit.specs.declared.action.Action.{Action}
use Rattle.chi_flit.specs.declared.action.Step.{Step}
use Rattle.chi_flit.specs.declared.action.Step.TheVariants as steps
use Rattle.chi_flit.specs.declared.kind.Kind.{Kind}
use Rattle.chi_flit.specs.declared.kind.Kind.TheVariants as kinds
use Rattle.chi_flit.specs.declared.numbers.Line.{Line}
use Rattle.chi_flit.specs.declared.refusal.Refusal.{Refusal}
use Rattle.chi_flit.specs.declared.refusal.Refusal.TheVariants as refusals
use Rattle.chi_slice.specs.Slice.{SliceState}
use Rattle.chi_node.specs.SlotStates.{Idle}
use Rattle.chi_node.specs.Words.{SlotRecord, state_at}
use Rattle.chi_node.specs.declared.answers.Arrived.{Arrived}
use Rattle.chi_node.specs.declared.answers.Stepped.{Stepped}
use Rattle.chi_node.specs.Agree.{Agree}
use Rattle.chi_node.specs.Calls.{ArrivesOn, CountsStep, OrNotOpen, StepsTo}
use Rattle.chi_node.specs.Outstanding.{arrival_refusal, outstanding_of, step_refusal}
use Rattle.chi_node.specs.Requester.{RequesterState}
use Rattle.chi_agent.specs.declared.choice.Call.{Call}
use Rattle.chi_agent.specs.declared.choice.Call.TheVariants as calls
use Rattle.chi_agent.specs.declared.choice.Choice.{Choice}
use Rattle.chi_agent.specs.declared.choice.Choice.TheVariants.{Finish, Try, Do}
use Rattle.chi_agent.specs.declared.operations.OperationPlace.{OperationPlace}
use Rattle.chi_agent.specs.declared.player.Player.{Player}
use Rattle.chi_agent.specs.Choice.{choice, drawn_line}
use Rattle.chi_agent.specs.Operations.{issued_operation, unfinished_at}

-- an action of a requester
abbrev pub action_by : RequesterState → Line → Step → Action
action_by r l step = record { agent = record { 0 = r.number }; line = l; step = step }

-- a step that is refused leaves all; one that is done is a step of the requester's, and is counted
abbrev pub StepEnds : Option Refusal → SliceState → SliceState → Action → RequesterState → RequesterState → Type 0
StepEnds (Some refusal) s s' action r r' = (s' ≡ s) × (r' ≡ r)
StepEnds None s s' action r r' = (stepped : Stepped) × StepsTo s s' action r r' stepped × CountsStep s s' action r r'

pub record StepTried (s s' : SliceState) (action : Action) (r r' : RequesterState) (answer : Option Refusal) : Type 0 where
  pub refusal : OrNotOpen (step_refusal s (outstanding_of r) action) (Agree s r) answer
  pub ends : StepEnds answer s s' action r r'

-- an arrival that is refused leaves all
abbrev pub ArrivalEnds : Option Refusal → SliceState → SliceState → Line → RequesterState → RequesterState → Type 0
ArrivalEnds (Some refusal) s s' l r r' = (s' ≡ s) × (r' ≡ r)
ArrivalEnds None s s' l r r' = (arrived : Arrived) × ArrivesOn s s' l r r' arrived

pub record ArrivalTried (s s' : SliceState) (l : Line) (r r' : RequesterState) (answer : Option Refusal) : Type 0 where
  pub refusal : OrNotOpen (arrival_refusal s r.number l.0) (Agree s r) answer
  pub ends : ArrivalEnds answer s s' l r r'

-- nothing is called, and so nothing refused
pub record NothingTried (s s' : SliceState) (r r' : RequesterState) (answer : Option Refusal) : Type 0 where
  pub none : answer ≡ None
  pub slice : s' ≡ s
  pub requester : r' ≡ r

-- what is called, and how it is answered
abbrev pub CallTried : Call → SliceState → SliceState → Line → RequesterState → RequesterState → Option Refusal → Type 0
CallTried (calls.Step step) s s' l r r' answer = StepTried s s' (action_by r l step) r r' answer
CallTried calls.Arrival s s' l r r' answer = ArrivalTried s s' l r r' answer

abbrev pub ChoiceTried : Choice → SliceState → SliceState → Line → RequesterState → RequesterState → Option Refusal → Type 0
ChoiceTried (Finish place) s s' l r r' answer = NothingTried s s' r r' answer
ChoiceTried (Try place step) s s' l r r' answer = StepTried s s' (action_by r l step) r r' answer
ChoiceTried (Do call) s s' l r r' answer = CallTried call s s' l r r' answer

-- one more, but no more than a word of 64 bits holds
abbrev pub count_after : ℕ → ℕ
count_after n = min (n + 1) (2 ^ 64 - 1)

-- the operation at the place is finished, and the others stay
abbrev pub player_without : {A : Type 0} → OperationPlace → Player A → Player A
player_without place p = record p { operations = remove p.operations place.0 }

-- the request of the operation at the place was issued
abbrev pub player_with_issue : {A : Type 0} → OperationPlace → Player A → Player A
player_with_issue place p = record p { operations = slice_set p.operations place.0 (issued_operation (unfinished_at p.operations place.0)) }

-- an issue: that of a copy-back or an Evict is marked, and the operation of another kind is still to be tried
abbrev pub after_issue : {A : Type 0} → Kind → OperationPlace → Player A → Player A
after_issue kinds.Evict place p = player_with_issue place p
after_issue kinds.WriteBackFull place p = player_with_issue place p
after_issue kinds.WriteCleanFull place p = player_with_issue place p
after_issue kinds.WriteEvictFull place p = player_with_issue place p
after_issue other place p = p

-- a step of an operation that is done: a load, a store or a drop finishes it
abbrev pub player_after_step : {A : Type 0} → Step → OperationPlace → Player A → Player A
player_after_step (steps.Load word) place p = record (player_without place p) { loads = count_after p.loads }
player_after_step (steps.Store word value) place p = record (player_without place p) { stores = count_after p.stores }
player_after_step steps.Drop place p = player_without place p
player_after_step (steps.Issue kind slot) place p = after_issue kind place p
player_after_step other place p = p

abbrev pub after_choice : {A : Type 0} → Choice → Player A → Player A
after_choice (Finish place) p = player_without place p
after_choice (Try place step) p = player_after_step step place p
after_choice (Do call) p = p

-- refusals 1 and 11 stop a script, and no other changes it
abbrev pub after_refusal : {A : Type 0} → Refusal → Player A → Player A
after_refusal refusals.JournalFull p = record p { stopped = true }
after_refusal refusals.NotOpen p = record p { stopped = true; not_open = true }
after_refusal other p = p

-- what the script makes of the answer
abbrev pub player_after_answer : {A : Type 0} → Option Refusal → Choice → Player A → Player A
player_after_answer None choice p = after_choice choice p
player_after_answer (Some refusal) choice p = after_refusal refusal p

-- a turn that does nothing: all stays
pub record Rests {A : Type 0} (s s' : SliceState) (p p' : Player A) (result : Bool) : Type 0 where
  pub none : result ≡ false
  pub slice : s' ≡ s
  pub player : p' ≡ p

-- a turn of a choice: it is tried of the requester and the slice, and the script follows the answer
pub record Acts {A : Type 0} (choice : Choice) (s s' : SliceState) (l : Line) (p p' : Player A) (result : Bool) : Type 0 where
  pub done : result ≡ true
  pub answer : Option Refusal
  pub tried : ChoiceTried choice s s' l p.requester p'.requester answer
  pub script : p' ≡ player_after_answer answer choice (record p { requester = p'.requester })

abbrev pub TurnsBy : {A : Type 0} → Option Choice → SliceState → SliceState → Line → Player A → Player A → Bool → Type 0
TurnsBy None s s' l p p' result = Rests s s' p p' result
TurnsBy (Some choice) s s' l p p' result = Acts choice s s' l p p' result

-- what a turn of the word x does
abbrev pub TurnsTo : {A : Type 0} → SliceState → SliceState → ℕ → Player A → Player A → Bool → Type 0
TurnsTo s s' x p p' result = TurnsBy (choice s p.requester p.operations p.stopped x) s s' (drawn_line s.config x) p p' result

-- the script is finished: nothing unfinished is left; it has ended where it is finished or stopped, and every
-- slot of the account is Idle
abbrev pub IsFinished : {A : Type 0} → Player A → Type 0
IsFinished p = p.operations ≡ []

abbrev pub AreIdle : List SlotRecord → Type 0
AreIdle slots = (s : ℕ) → s < 8 → state_at slots s ≡ Idle

abbrev pub HasEnded : {A : Type 0} → Player A → Type 0
HasEnded p = (IsFinished p ⊎ (p.stopped ≡ true)) × AreIdle p.requester.slots
