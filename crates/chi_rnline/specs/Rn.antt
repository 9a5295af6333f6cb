-- One requester's side of one line, and the requester's part of each action (docs/PROTOCOL.md, "One line",
-- "The actions", "Answers to snoops" and "Write data").
use Rattle.std.specs.Prelude.{ℕ, List, Bool, true, false, ◌||◌, Option, Some, None, is_some, slice_set, if◌then◌else◌, not, option_map}
use Rattle.std.specs.List.{slice_index_or}
use Rattle.chi_flit.specs.declared.numbers.Slot.{Slot}
use Rattle.chi_flit.specs.declared.state.State.{State}
use Rattle.chi_flit.specs.declared.state.State.TheVariants.{I, SC, UC, UD, SD}
use Rattle.chi_flit.specs.declared.kind.Kind.{Kind}
use Rattle.chi_flit.specs.declared.kind.Kind.TheVariants.{Evict}
use Rattle.chi_flit.specs.declared.snoop.Snoop.{Snoop}
use Rattle.chi_flit.specs.declared.message.CompData.{CompData}
use Rattle.chi_flit.specs.declared.message.Msg.{Msg}
use Rattle.chi_flit.specs.declared.message.Msg.TheVariants as messages
use Rattle.chi_flit.specs.declared.refusal.Refusal.{Refusal}
use Rattle.chi_flit.specs.declared.refusal.Refusal.TheVariants as refusals
use Rattle.chi_flit.specs.State.{is_unique, is_valid}
use Rattle.chi_flit.specs.Kind.{gives_up, is_copy_back, is_needed}
use Rattle.chi_flit.specs.Snoop.{answer_of}
use Rattle.chi_flit.specs.Message.{no_words}
use Rattle.chi_rnline.specs.declared.pending.Pending.{Pending}
use Rattle.chi_rnline.specs.declared.pending.Phase.{Phase}
use Rattle.chi_rnline.specs.declared.pending.Phase.TheVariants.{Sent, Retried}

-- a copy's state and data, and the request that is pending
pub record Rn : Type 0 where
  pub state : State
  pub words : List ℕ
  pub pending : Option Pending

-- a copy in a state and with its data, and what is pending
abbrev pub rn_of_parts : State → List ℕ → Option Pending → Rn
rn_of_parts state words pending = record { state = state; words = words; pending = pending }

-- no copy, and nothing pending
abbrev pub no_line : Rn
no_line = record { state = I; words = no_words; pending = None }

-- a request as a message
abbrev pub request_message : Kind → Slot → Bool → Msg
request_message kind slot allow_retry = messages.Req (record { kind = kind; slot = slot; allow_retry = allow_retry })

-- Issue: 3 where a request is pending, then 2 where the copy isn't in the needed state
abbrev pub issue_refusal : Rn → Kind → Option Refusal
issue_refusal rn kind = if is_some rn.pending then Some refusals.Pending else (if is_needed kind rn.state then None else Some refusals.WrongState)

-- the copy's state after an issue: an Evict gives it up at once
abbrev pub state_after_issue : Kind → State → State
state_after_issue Evict state = I
state_after_issue other state = state

-- Issue: the request is pending, in phase Sent
abbrev pub rn_after_issue : Rn → Kind → Slot → Rn
rn_after_issue rn kind slot = record rn { state = state_after_issue kind rn.state; pending = Some (record { kind = kind; slot = slot; phase = Sent }) }

-- RecvData: the copy is the message's state and data, and nothing is pending
abbrev pub rn_after_data : Rn → CompData → Rn
rn_after_data rn sent = record rn { state = if sent.unique then UC else SC; words = sent.words; pending = None }

-- Load: 2 where there is no copy
abbrev pub load_refusal : Rn → Option Refusal
load_refusal rn = if is_valid rn.state then None else Some refusals.WrongState

-- Load: the value of the copy's word
abbrev pub word_of : Rn → ℕ → ℕ
word_of rn word = slice_index_or rn.words word 0

-- Store: 3 where a request is pending, then 2 where the copy isn't unique
abbrev pub store_refusal : Rn → Option Refusal
store_refusal rn = if is_some rn.pending then Some refusals.Pending else (if is_unique rn.state then None else Some refusals.WrongState)

-- Store: the word has the value, and the copy is UD
abbrev pub rn_after_store : Rn → ℕ → ℕ → Rn
rn_after_store rn word value = record rn { state = UD; words = slice_set rn.words word value }

-- the states of a clean copy, which may be dropped
abbrev pub is_clean_copy : State → Bool
is_clean_copy SC = true
is_clean_copy UC = true
is_clean_copy other = false

-- Drop: 3 where a request is pending, then 2 where the copy isn't clean
abbrev pub drop_refusal : Rn → Option Refusal
drop_refusal rn = if is_some rn.pending then Some refusals.Pending else (if is_clean_copy rn.state then None else Some refusals.WrongState)

-- Drop: no copy
abbrev pub rn_after_drop : Rn → Rn
rn_after_drop rn = record rn { state = I }

-- a request in a phase
abbrev pub in_phase : Phase → Option Pending → Option Pending
in_phase phase pending = option_map (λ (request : Pending). record request { phase = phase }) pending

-- RecvRetry: the request is in phase Retried
abbrev pub rn_after_retry : Rn → Rn
rn_after_retry rn = record rn { pending = in_phase Retried rn.pending }

-- whether a retried request may still be sent: a copy-back only from its needed state
abbrev pub may_resend : Kind → State → Bool
may_resend kind state = not (is_copy_back kind) || is_needed kind state

-- Resend: 4 where no request is in phase Retried, then 2 where it may not be sent
abbrev pub resend_refusal_of : State → Kind → Phase → Option Refusal
resend_refusal_of state kind Sent = Some refusals.NothingPending
resend_refusal_of state kind Retried = if may_resend kind state then None else Some refusals.WrongState

abbrev pub resend_refusal_in : State → Option Pending → Option Refusal
resend_refusal_in state None = Some refusals.NothingPending
resend_refusal_in state (Some request) = resend_refusal_of state request.kind request.phase

abbrev pub resend_refusal : Rn → Option Refusal
resend_refusal rn = resend_refusal_in rn.state rn.pending

-- Resend: the request is in phase Sent again
abbrev pub rn_after_resend : Rn → Rn
rn_after_resend rn = record rn { pending = in_phase Sent rn.pending }

-- Cancel: 4 where no request is in phase Retried, then 2 where it may still be sent
abbrev pub cancel_refusal_of : State → Kind → Phase → Option Refusal
cancel_refusal_of state kind Sent = Some refusals.NothingPending
cancel_refusal_of state kind Retried = if may_resend kind state then Some refusals.WrongState else None

abbrev pub cancel_refusal_in : State → Option Pending → Option Refusal
cancel_refusal_in state None = Some refusals.NothingPending
cancel_refusal_in state (Some request) = cancel_refusal_of state request.kind request.phase

abbrev pub cancel_refusal : Rn → Option Refusal
cancel_refusal rn = cancel_refusal_in rn.state rn.pending

-- Cancel: nothing is pending
abbrev pub rn_after_cancel : Rn → Rn
rn_after_cancel rn = record rn { pending = None }

-- RecvSnp: the copy's state is the answer's
abbrev pub rn_after_snoop : Rn → Snoop → Rn
rn_after_snoop rn snoop = record rn { state = (answer_of rn.state snoop rn.words).0 }

-- the copy's state after Comp_UC: a copy that was lost stays so
abbrev pub state_after_comp : State → State
state_after_comp SC = UC
state_after_comp SD = UD
state_after_comp other = other

-- RecvComp of Comp_UC: the copy is unique, and nothing is pending
abbrev pub rn_after_comp : Rn → Rn
rn_after_comp rn = record rn { state = state_after_comp rn.state; pending = None }

-- RecvComp of Comp_I: nothing is pending
abbrev pub rn_after_evict : Rn → Rn
rn_after_evict rn = record rn { pending = None }

-- the copy's state after its write data was sent: a WriteCleanFull keeps a copy, clean
abbrev pub state_after_clean : State → State
state_after_clean UD = UC
state_after_clean SD = SC
state_after_clean other = other

abbrev pub state_after_write : Kind → State → State
state_after_write kind state = if gives_up kind then I else state_after_clean state

-- RecvDbid of a request of the kind: nothing is pending
abbrev pub rn_after_dbid : Rn → Kind → Rn
rn_after_dbid rn kind = record rn { state = state_after_write kind rn.state; pending = None }

-- RecvDbid of the request that is pending
abbrev pub dbid_taken : Rn → Option Pending → Rn
dbid_taken rn None = rn
dbid_taken rn (Some request) = rn_after_dbid rn request.kind
