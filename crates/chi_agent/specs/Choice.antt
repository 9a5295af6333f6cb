-- What a turn has a requester do on the slice of its line: one choice, of three parts in their order
-- (docs/FORMATS.md, "A turn").
use Rattle.std.specs.Prelude.{◌≡◌, ℕ, ◌<◌, ◌/◌, ◌%◌, Bool, true, false, not, List}
use Rattle.std.specs.Prelude.{[], ◌∷◌, length, slice_get, position, Option, Some, None, is_some, option_map, ⊤, if◌then◌else◌}
use Rattle.std.specs.List.{filter}
use Rattle.chi_flit.specs.declared.numbers.Line.{Line}
use Rattle.chi_flit.specs.declared.numbers.Slot.{Slot}
use Rattle.chi_flit.specs.declared.numbers.WordNo.{WordNo}
use Rattle.chi_flit.specs.declared.action.Step.TheVariants as steps
use Rattle.chi_flit.specs.declared.credit.CreditType.{CreditType}
use Rattle.chi_flit.specs.declared.credit.Profile.{Profile}
use Rattle.chi_flit.specs.declared.kind.Kind.{Kind}
use Rattle.chi_flit.specs.declared.kind.Kind.TheVariants as kinds
use Rattle.chi_flit.specs.declared.operation.Task.{Task}
use Rattle.chi_flit.specs.declared.operation.Task.TheVariants as tasks
use Rattle.chi_flit.specs.declared.refusal.Refusal.{Refusal}
use Rattle.chi_flit.specs.declared.state.State.{State}
use Rattle.chi_flit.specs.declared.state.State.TheVariants.{I, SC, UC, UD, SD}
use Rattle.chi_flit.specs.Credit.{credit_number}
use Rattle.chi_flit.specs.Kind.{is_needed}
use Rattle.chi_flit.specs.State.{is_valid}
use Rattle.chi_slice.specs.Words.{is_clean_copy, pending_credit, resend_refusal, rn_of, Pending, Phase, Rn, Sizes}
use Rattle.chi_slice.specs.Phases.{Sent, Retried}
use Rattle.chi_slice.specs.Slice.{SliceState, are_in_range, line, action_refusal}
use Rattle.chi_node.specs.Words.{SlotRecord, is_idle_state}
use Rattle.chi_node.specs.Calls.{is_own_step}
use Rattle.chi_node.specs.Outstanding.{has_spare, outstanding_of}
use Rattle.chi_node.specs.Requester.{RequesterState}
use Rattle.chi_agent.specs.declared.choice.Call.{Call}
use Rattle.chi_agent.specs.declared.choice.Call.TheVariants as calls
use Rattle.chi_agent.specs.declared.choice.Choice.{Choice}
use Rattle.chi_agent.specs.declared.choice.Choice.TheVariants.{Finish, Try, Do}
use Rattle.chi_agent.specs.declared.operations.OperationPlace.{OperationPlace}
use Rattle.chi_agent.specs.declared.operations.Unfinished.{Unfinished}
use Rattle.chi_agent.specs.Operations.{eligible_on, unfinished_at}

-- first part: a request in phase Retried is cancelled where Resend would be refused, which is by 2 then, and
-- else resent where a seen credit of its type is beyond those for the Riding slots
abbrev pub is_retried_in : Phase → Bool
is_retried_in Sent = false
is_retried_in Retried = true

abbrev pub is_pending_retried : Option Pending → Bool
is_pending_retried None = false
is_pending_retried (Some request) = is_retried_in request.phase

abbrev pub has_credit : RequesterState → Option CreditType → Bool
has_credit r None = false
has_credit r (Some ty) = has_spare (outstanding_of r) (credit_number ty)

abbrev pub cancel_or_resend : Option Refusal → Bool → Option Choice
cancel_or_resend (Some refusal) credit = Some (Do (calls.Step steps.Cancel))
cancel_or_resend None true = Some (Do (calls.Step steps.Resend))
cancel_or_resend None false = None

abbrev pub retry : Profile → Rn → RequesterState → Option Choice
retry profile rn r = if is_pending_retried rn.pending then cancel_or_resend (resend_refusal rn) (has_credit r (pending_credit profile rn.pending)) else None

-- second part: the eligible operation is tried, by its task and the copy. Nothing is issued while a request is
-- pending, or where no slot is idle
abbrev pub is_idle_slot : SlotRecord → Bool
is_idle_slot slot = is_idle_state slot.state

abbrev pub lowest_idle_slot : List SlotRecord → Option Slot
lowest_idle_slot slots = option_map (λ s. record { 0 = s }) (position is_idle_slot slots)

abbrev pub issue_into : Option Slot → OperationPlace → Kind → Option Choice
issue_into None place kind = None
issue_into (Some slot) place kind = Some (Try place (steps.Issue kind slot))

abbrev pub issue : Rn → List SlotRecord → OperationPlace → Kind → Option Choice
issue rn slots place kind = if is_some rn.pending then None else issue_into (lowest_idle_slot slots) place kind

abbrev pub load : Rn → List SlotRecord → OperationPlace → WordNo → Kind → Option Choice
load rn slots place word kind = if is_valid rn.state then Some (Try place (steps.Load word)) else issue rn slots place kind

abbrev pub store_in : State → Rn → List SlotRecord → OperationPlace → WordNo → ℕ → Option Choice
store_in I rn slots place word value = issue rn slots place kinds.ReadUnique
store_in SC rn slots place word value = issue rn slots place kinds.CleanUnique
store_in UC rn slots place word value = Some (Try place (steps.Store word value))
store_in UD rn slots place word value = Some (Try place (steps.Store word value))
store_in SD rn slots place word value = issue rn slots place kinds.CleanUnique

-- a copy-back or an Evict: in another state than the needed one it is skipped, and once it is issued it is
-- finished when nothing is pending
abbrev pub write_or_evict : Bool → Rn → List SlotRecord → OperationPlace → Kind → Option Choice
write_or_evict true rn slots place kind = if is_some rn.pending then None else Some (Finish place)
write_or_evict false rn slots place kind = if is_needed kind rn.state then issue rn slots place kind else Some (Finish place)

abbrev pub drop_or_skip : Rn → OperationPlace → Option Choice
drop_or_skip rn place = if is_clean_copy rn.state then Some (Try place steps.Drop) else Some (Finish place)

abbrev pub by_task : Task → Bool → Rn → List SlotRecord → OperationPlace → Option Choice
by_task (tasks.Load word) issued rn slots place = load rn slots place word kinds.ReadNotSharedDirty
by_task (tasks.Share word) issued rn slots place = load rn slots place word kinds.ReadShared
by_task (tasks.Store word value) issued rn slots place = store_in rn.state rn slots place word value
by_task tasks.WriteBack issued rn slots place = write_or_evict issued rn slots place kinds.WriteBackFull
by_task tasks.WriteClean issued rn slots place = write_or_evict issued rn slots place kinds.WriteCleanFull
by_task tasks.WriteEvict issued rn slots place = write_or_evict issued rn slots place kinds.WriteEvictFull
by_task tasks.Evict issued rn slots place = write_or_evict issued rn slots place kinds.Evict
by_task tasks.Drop issued rn slots place = drop_or_skip rn place

abbrev pub try_at : Option OperationPlace → List Unfinished → Rn → List SlotRecord → Option Choice
try_at None ops rn slots = None
try_at (Some place) ops rn slots = by_task (unfinished_at ops place.0).operation.task (unfinished_at ops place.0).issued rn slots place

abbrev pub operation : Bool → List Unfinished → Rn → List SlotRecord → ℕ → Option Choice
operation stopped ops rn slots l = if stopped then None else try_at (eligible_on ops l) ops rn slots

-- third part: of the deliveries that wouldn't be refused, in their order, the one at place (x / L) mod count
abbrev pub deliveries : List Call
deliveries =
    calls.Step steps.RecvSnp ∷ calls.Step steps.RecvRetry ∷ calls.Step steps.RecvData ∷ calls.Step steps.RecvComp ∷ calls.Step steps.RecvDbid
    ∷ calls.Arrival ∷ calls.Step steps.Start
    ∷ calls.Step steps.RecvSnpResp ∷ calls.Step steps.RecvAck ∷ calls.Step steps.RecvWrData ∷ []

abbrev pub turn_call_refusal : SliceState → ℕ → Line → Call → Option Refusal
turn_call_refusal s n l (calls.Step step) = action_refusal s (record { agent = record { 0 = n }; line = l; step = step })
turn_call_refusal s n l calls.Arrival = action_refusal s (record { agent = record { 0 = n }; line = l; step = steps.Admit })

abbrev pub is_enabled : SliceState → ℕ → Line → Call → Bool
is_enabled s n l call = not (is_some (turn_call_refusal s n l call))

abbrev pub enabled_deliveries : SliceState → ℕ → Line → List Call
enabled_deliveries s n l = filter (is_enabled s n l) deliveries

abbrev pub delivery : SliceState → ℕ → Line → ℕ → Option Choice
delivery s n l number = option_map Do (slice_get (enabled_deliveries s n l) (number % length (enabled_deliveries s n l)))

-- the line of a turn: x mod L
abbrev pub drawn_line : Sizes → ℕ → Line
drawn_line config x = record { 0 = x % config.lines }

-- the first of two choices, if there is one
abbrev pub else_choice : Option Choice → Option Choice → Option Choice
else_choice None other = other
else_choice (Some choice) other = Some choice

-- the parts in their order at a line
abbrev pub choice_at : SliceState → RequesterState → List Unfinished → Bool → Line → ℕ → Option Choice
choice_at s r ops stopped l number = else_choice (retry s.config.profile (rn_of (line s l.0) r.number) r)
    (else_choice (operation stopped ops (rn_of (line s l.0) r.number) r.slots l.0) (delivery s r.number l number))

-- what is done for the word x; nothing in a slice that hasn't the line
abbrev pub choice : SliceState → RequesterState → List Unfinished → Bool → ℕ → Option Choice
choice s r ops stopped x = if are_in_range s r.number (x % s.config.lines) then choice_at s r ops stopped (drawn_line s.config x) (x / s.config.lines) else None

-- what is known of each choice: its place is one of the window, and its step the requester's own
abbrev pub IsInWindow : List Unfinished → OperationPlace → Type 0
IsInWindow ops place = (place.0 < 8) × (place.0 < length ops)

abbrev pub IsOwnCall : Call → Type 0
IsOwnCall (calls.Step step) = is_own_step step ≡ true
IsOwnCall calls.Arrival = ⊤

abbrev pub IsOwnChoice : List Unfinished → Choice → Type 0
IsOwnChoice ops (Finish place) = IsInWindow ops place
IsOwnChoice ops (Try place step) = IsInWindow ops place × (is_own_step step ≡ true)
IsOwnChoice ops (Do call) = IsOwnCall call

-- the step that a choice tries is the requester's own
abbrev pub IsOwnStep : Choice → Type 0
IsOwnStep (Finish place) = ⊤
IsOwnStep (Try place step) = is_own_step step ≡ true
IsOwnStep (Do call) = IsOwnCall call

-- a choice of a call, and one for the operation at a place
abbrev pub IsCall : Choice → Type 0
IsCall (Finish place) = ⊥
IsCall (Try place step) = ⊥
IsCall (Do call) = IsOwnCall call

abbrev pub IsChosenAt : OperationPlace → Choice → Type 0
IsChosenAt place (Finish other) = other ≡ place
IsChosenAt place (Try other step) = (other ≡ place) × (is_own_step step ≡ true)
IsChosenAt place (Do call) = ⊥
