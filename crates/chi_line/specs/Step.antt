-- The actions on one line as functions: what each leaves, and its effect (docs/PROTOCOL.md, "The actions",
-- "Start", "Answers of snooped agents", "Completion" and "Write data"). A case says what changes; all else
-- stays.
use Rattle.std.specs.Prelude.{ℕ, List, Bool, true, false, Option, Some, None, slice_set, ◌==◌, ◌||◌, nat_lt, if◌then◌else◌, option_map}
use Rattle.std.specs.List.{slice_index_or}
use Rattle.chi_flit.specs.declared.numbers.Agent.{Agent}
use Rattle.chi_flit.specs.declared.numbers.Line.{Line}
use Rattle.chi_flit.specs.declared.numbers.Slot.{Slot}
use Rattle.chi_flit.specs.declared.kind.Kind.{Kind}
use Rattle.chi_flit.specs.declared.kind.Kind.TheVariants.{Evict}
use Rattle.chi_flit.specs.declared.action.Action.{Action}
use Rattle.chi_flit.specs.declared.action.Step.{Step}
use Rattle.chi_flit.specs.declared.action.Step.TheVariants as steps
use Rattle.chi_flit.specs.declared.action.Effect.{Effect}
use Rattle.chi_flit.specs.declared.action.Effect.TheVariants.{Nothing, Value, Completed}
use Rattle.chi_flit.specs.declared.message.Request.{Request}
use Rattle.chi_flit.specs.declared.message.DatUp.{DatUp}
use Rattle.chi_flit.specs.declared.message.DatUp.TheVariants.{SnpRespDataIPD, SnpRespDataSCPD, SnpRespDataSD, CopyBackWrData}
use Rattle.chi_flit.specs.declared.message.RspDown.{RspDown}
use Rattle.chi_flit.specs.declared.message.RspDown.TheVariants.{CompUC, CompI, CompDBIDResp, RetryAck}
use Rattle.chi_flit.specs.declared.credit.Profile.{Profile}
use Rattle.chi_flit.specs.declared.snoop.Snoop.{Snoop}
use Rattle.chi_flit.specs.declared.state.State.{State}
use Rattle.chi_flit.specs.Credit.{credit_type_of}
use Rattle.chi_flit.specs.Message.{write_data_of}
use Rattle.chi_flit.specs.Snoop.{answer_of}
use Rattle.chi_flit.specs.declared.message.CompData.{CompData}
use Rattle.chi_flit.specs.declared.message.RspUp.{RspUp}
use Rattle.chi_flit.specs.declared.message.RspUp.TheVariants.{SnpRespI, SnpRespSC, CompAck}
use Rattle.chi_flit.specs.declared.message.Msg.TheVariants as messages
use Rattle.chi_flit.specs.declared.refusal.Refusal.{Refusal}
use Rattle.chi_journal.specs.declared.record.Record.{Record}
use Rattle.chi_journal.specs.declared.record.Record.TheVariants as records
use Rattle.chi_wires.specs.declared.cells.Cells.{Cells}
use Rattle.chi_wires.specs.Cell.{without_message, no_flits, with_message}
use Rattle.chi_wires.specs.Flits.{with_snoops}
use Rattle.chi_rnline.specs.declared.pending.Pending.{Pending}
use Rattle.chi_rnline.specs.Rn.{rn_after_cancel, rn_after_comp, rn_after_dbid, rn_after_drop, rn_after_evict, rn_after_issue, rn_after_data, request_message, rn_after_resend}
use Rattle.chi_rnline.specs.Rn.{rn_after_retry, rn_after_snoop, rn_after_store, word_of}
use Rattle.chi_homeline.specs.declared.serving.Serving.{Serving}
use Rattle.chi_homeline.specs.declared.serving.Serving.TheVariants.{Idle, Snooping, AwaitingCompAck, AwaitingWriteData}
use Rattle.chi_homeline.specs.declared.serving.Waiting.{Waiting}
use Rattle.chi_homeline.specs.declared.serving.SnoopAnswer.{SnoopAnswer}
use Rattle.chi_homeline.specs.declared.serving.SnoopAnswer.TheVariants as answers
use Rattle.chi_homeline.specs.Home.{Started}
use Rattle.chi_homeline.specs.Home.Started.{Sends, Evicted, Snoops}
use Rattle.chi_homeline.specs.Home.{Home, home_after_ack, home_after_admit, served_kind, served_slot, snoop_answered, snoop_answered_sends, home_after_start}
use Rattle.chi_homeline.specs.Home.{started_sends, waiting_of, home_after_write}
use Rattle.chi_line.specs.LineState.{LineState, rn_of, cells_of}
use Rattle.chi_line.specs.Snooped.{answer_channel, completion_put}

-- Issue: the request is pending, and in flight with AllowRetry
abbrev pub issued_line : LineState → ℕ → Kind → Slot → LineState
issued_line s n kind slot = record s {
  requesters = slice_set s.requesters n (rn_after_issue (rn_of s n) kind slot);
  flits = slice_set s.flits n (with_message (cells_of s n) (request_message kind slot true));
}

-- Admit: the request that was in flight waits
abbrev pub admitted_line : LineState → ℕ → Request → LineState
admitted_line s n request = record s {
  home = home_after_admit s.home n (record { kind = request.kind; slot = request.slot });
  flits = slice_set s.flits n (record (cells_of s n) { req = None });
}

-- what a start leaves in flight
abbrev pub flits_after_start : List Cells → ℕ → Started → List Cells
flits_after_start flits n (Sends message) = slice_set flits n (with_message (slice_index_or flits n no_flits) message)
flits_after_start flits n (Evicted slot) = slice_set flits n (with_message (slice_index_or flits n no_flits) (messages.RspDown CompI))
flits_after_start flits n (Snoops snoop agents) = with_snoops agents snoop flits

-- Start: the home serves the request that waited, and sends what the start sends
abbrev pub started_line : LineState → Agent → Waiting → LineState
started_line s agent request = record s {
  home = home_after_start s.home agent request;
  flits = flits_after_start s.flits agent.0 (started_sends s.home agent request);
}

-- RecvData: the copy is the message's, nothing is pending, and CompAck is in flight
abbrev pub received_line : LineState → ℕ → CompData → LineState
received_line s n message = record s {
  requesters = slice_set s.requesters n (rn_after_data (rn_of s n) message);
  flits = slice_set s.flits n (record (cells_of s n) { dat_down = None; rsp_up = Some CompAck });
}

-- RecvAck: the CompAck is taken, and the line is idle
abbrev pub acknowledged_line : LineState → ℕ → LineState
acknowledged_line s n = record s { home = home_after_ack s.home; flits = slice_set s.flits n (record (cells_of s n) { rsp_up = None }) }

-- Store: the word of the copy has the value
abbrev pub stored_line : LineState → ℕ → ℕ → ℕ → LineState
stored_line s n word value = record s { requesters = slice_set s.requesters n (rn_after_store (rn_of s n) word value) }

-- Drop: no copy
abbrev pub dropped_line : LineState → ℕ → LineState
dropped_line s n = record s { requesters = slice_set s.requesters n (rn_after_drop (rn_of s n)) }

-- Retry: the request is taken, and RetryAck of its credit type is in flight
abbrev pub retried_line : Profile → LineState → ℕ → Request → LineState
retried_line profile s n request = record s {
  flits = slice_set s.flits n (record (cells_of s n) { req = None; rsp_down = Some (RetryAck (credit_type_of profile request.kind)) });
}

-- RecvRetry: the request is in phase Retried
abbrev pub retry_received_line : LineState → ℕ → LineState
retry_received_line s n = record s {
  requesters = slice_set s.requesters n (rn_after_retry (rn_of s n));
  flits = slice_set s.flits n (record (cells_of s n) { rsp_down = None });
}

-- Resend: the request is in flight without AllowRetry
abbrev pub resent_line : LineState → ℕ → Pending → LineState
resent_line s n request = record s {
  requesters = slice_set s.requesters n (rn_after_resend (rn_of s n));
  flits = slice_set s.flits n (with_message (cells_of s n) (request_message request.kind request.slot false));
}

-- Cancel: nothing is pending
abbrev pub cancelled_line : LineState → ℕ → LineState
cancelled_line s n = record s { requesters = slice_set s.requesters n (rn_after_cancel (rn_of s n)) }

-- RecvSnp: the snoop is taken, and its answer is in flight
abbrev pub snooped_line : LineState → ℕ → Snoop → LineState
snooped_line s n snoop = record s {
  requesters = slice_set s.requesters n (rn_after_snoop (rn_of s n) snoop);
  flits = slice_set s.flits n (with_message (record (cells_of s n) { snp = None }) (answer_of (rn_of s n).state snoop (rn_of s n).words).1);
}

-- RecvComp of Comp_UC: CompAck is in flight
abbrev pub comp_received_line : LineState → ℕ → LineState
comp_received_line s n = record s {
  requesters = slice_set s.requesters n (rn_after_comp (rn_of s n));
  flits = slice_set s.flits n (record (cells_of s n) { rsp_down = None; rsp_up = Some CompAck });
}

-- RecvComp of Comp_I
abbrev pub evict_received_line : LineState → ℕ → LineState
evict_received_line s n = record s {
  requesters = slice_set s.requesters n (rn_after_evict (rn_of s n));
  flits = slice_set s.flits n (record (cells_of s n) { rsp_down = None });
}

-- RecvDbid of a request of the kind: the write data is in flight
abbrev pub dbid_received_line : LineState → ℕ → Kind → LineState
dbid_received_line s n kind = record s {
  requesters = slice_set s.requesters n (rn_after_dbid (rn_of s n) kind);
  flits = slice_set s.flits n (record (cells_of s n) { rsp_down = None; dat_up = Some (write_data_of (rn_of s n).state (rn_of s n).words) });
}

-- RecvWrData of a request of the kind: the data is taken, and the line is idle
abbrev pub written_line : LineState → ℕ → Kind → State → List ℕ → LineState
written_line s n kind form words = record s {
  home = home_after_write s.home n kind form words;
  flits = slice_set s.flits n (record (cells_of s n) { dat_up = None });
}

-- a step that takes something away: none where there is nothing
abbrev pub where_some : {A : Type 0} → LineState → Option A → (A → LineState) → LineState
where_some s None step = s
where_some s (Some taken) step = step taken

-- the answer to a snoop that is in flight: a response, or else data
abbrev pub response_answer : Option RspUp → Option SnoopAnswer → Option SnoopAnswer
response_answer (Some SnpRespI) other = Some answers.I
response_answer (Some SnpRespSC) other = Some answers.SC
response_answer _ other = other

abbrev pub data_answer : Option DatUp → Option SnoopAnswer
data_answer (Some (SnpRespDataIPD words)) = Some (answers.IPD words)
data_answer (Some (SnpRespDataSCPD words)) = Some (answers.SCPD words)
data_answer (Some (SnpRespDataSD words)) = Some (answers.SD words)
data_answer other = None

abbrev pub answer_in : Cells → Option SnoopAnswer
answer_in cells = response_answer cells.rsp_up (data_answer cells.dat_up)

-- RecvSnpResp of an answer: it is out of its cell, the home has it, and where it was the last one the
-- completion is in flight
abbrev pub answered_by : LineState → Agent → SnoopAnswer → LineState
answered_by s agent answer = record s {
  home = snoop_answered s.home agent answer;
  flits = completion_put (slice_set s.flits agent.0 (without_message (cells_of s agent.0) (answer_channel answer))) (snoop_answered_sends s.home agent answer);
}

-- RecvComp of each completion
abbrev pub completion_received : LineState → ℕ → Option RspDown → LineState
completion_received s n (Some CompUC) = comp_received_line s n
completion_received s n (Some CompI) = evict_received_line s n
completion_received s n other = s

-- RecvWrData of the write data of a request of the kind
abbrev pub data_written : LineState → ℕ → Kind → Option DatUp → LineState
data_written s n kind (Some (CopyBackWrData form words)) = written_line s n kind form words
data_written s n kind other = s

-- what an action of an agent that is done leaves
abbrev pub after_step : Profile → LineState → Agent → Step → LineState
after_step profile s agent (steps.Load word) = s
after_step profile s agent (steps.Store word value) = stored_line s agent.0 word.0 value
after_step profile s agent steps.Drop = dropped_line s agent.0
after_step profile s agent (steps.Issue kind slot) = issued_line s agent.0 kind slot
after_step profile s agent steps.Admit = where_some s (cells_of s agent.0).req (admitted_line s agent.0)
after_step profile s agent steps.Retry = where_some s (cells_of s agent.0).req (retried_line profile s agent.0)
after_step profile s agent steps.RecvRetry = retry_received_line s agent.0
after_step profile s agent steps.Resend = where_some s (rn_of s agent.0).pending (resent_line s agent.0)
after_step profile s agent steps.Cancel = cancelled_line s agent.0
after_step profile s agent steps.Start = where_some s (waiting_of s.home agent.0) (started_line s agent)
after_step profile s agent steps.RecvSnp = where_some s (cells_of s agent.0).snp (snooped_line s agent.0)
after_step profile s agent steps.RecvSnpResp = where_some s (answer_in (cells_of s agent.0)) (answered_by s agent)
after_step profile s agent steps.RecvData = where_some s (cells_of s agent.0).dat_down (received_line s agent.0)
after_step profile s agent steps.RecvComp = completion_received s agent.0 (cells_of s agent.0).rsp_down
after_step profile s agent steps.RecvAck = acknowledged_line s agent.0
after_step profile s agent steps.RecvDbid = where_some s (rn_of s agent.0).pending (λ request. dbid_received_line s agent.0 request.kind)
after_step profile s agent steps.RecvWrData = where_some s (served_kind s.home.serving) (λ kind. data_written s agent.0 kind (cells_of s agent.0).dat_up)

abbrev pub after : Profile → LineState → Action → LineState
after profile s action = after_step profile s action.agent action.step

-- the effect of a start: an Evict is complete with it
abbrev pub started_effect : Started → Effect
started_effect (Evicted slot) = Completed slot
started_effect other = Nothing

abbrev pub waiting_effect : Home → Agent → Option Waiting → Effect
waiting_effect home agent None = Nothing
waiting_effect home agent (Some request) = started_effect (started_sends home agent request)

abbrev pub completed_effect : Option Slot → Effect
completed_effect None = Nothing
completed_effect (Some slot) = Completed slot

-- the slot of a request that its start completes: that of an Evict
abbrev pub slot_of_evict : Kind → Slot → Option Slot
slot_of_evict Evict slot = Some slot
slot_of_evict other slot = None

-- the effect of an action that is done: a load gives the word's value, and the home is done with the
-- request that is served at its CompAck or write data
abbrev pub step_effect : LineState → Agent → Step → Effect
step_effect s agent (steps.Load word) = Value (word_of (rn_of s agent.0) word.0)
step_effect s agent steps.Start = waiting_effect s.home agent (waiting_of s.home agent.0)
step_effect s agent steps.RecvAck = completed_effect (served_slot s.home.serving)
step_effect s agent steps.RecvWrData = completed_effect (served_slot s.home.serving)
step_effect s agent other = Nothing

abbrev pub effect_of : LineState → Action → Effect
effect_of s action = step_effect s action.agent action.step

-- whether a slot is this one
abbrev pub is_slot : Option Slot → Slot → Bool
is_slot None slot = false
is_slot (Some other) slot = other.0 == slot.0

-- the slot of an agent's request: pending, waiting at the home, or served there
abbrev pub pending_slot : Option Pending → Option Slot
pending_slot pending = option_map (λ (request : Pending). request.slot) pending

abbrev pub waiting_slot : Option Waiting → Option Slot
waiting_slot waiting = option_map (λ (request : Waiting). request.slot) waiting

abbrev pub slot_served_for : Serving → ℕ → Option Slot
slot_served_for Idle n = None
slot_served_for (Snooping agent kind slot) n = if agent.0 == n then Some slot else None
slot_served_for (AwaitingCompAck agent slot) n = if agent.0 == n then Some slot else None
slot_served_for (AwaitingWriteData agent kind slot) n = if agent.0 == n then Some slot else None

-- whether the agent's slot is in use at the line
abbrev pub line_uses : LineState → ℕ → Slot → Bool
line_uses s n slot =
    is_slot (pending_slot (rn_of s n).pending) slot
    || (is_slot (waiting_slot (waiting_of s.home n)) slot || is_slot (slot_served_for s.home.serving n) slot)

-- whether a cell has a CompAck
abbrev pub is_ack : Option RspUp → Bool
is_ack (Some CompAck) = true
is_ack other = false

-- whether a cell has a RetryAck
abbrev pub is_retry : Option RspDown → Bool
is_retry (Some (RetryAck ty)) = true
is_retry other = false

-- whether a cell has Comp_UC or Comp_I
abbrev pub is_comp : Option RspDown → Bool
is_comp (Some CompUC) = true
is_comp (Some CompI) = true
is_comp other = false

-- whether a cell has CompDBIDResp
abbrev pub is_dbid : Option RspDown → Bool
is_dbid (Some CompDBIDResp) = true
is_dbid other = false

-- whether a cell has CopyBackWrData
abbrev pub is_write_data : Option DatUp → Bool
is_write_data (Some (CopyBackWrData form words)) = true
is_write_data other = false

-- the slot of a request that an action completes, where it isn't refused
abbrev pub completed_slot : Effect → Option Slot
completed_slot (Completed slot) = Some slot
completed_slot other = None

abbrev pub slot_unless : Option Refusal → Effect → Option Slot
slot_unless None effect = completed_slot effect
slot_unless (Some refusal) effect = None

-- whether the numbers of a step are in their ranges: a word, or a slot, is one of eight
abbrev pub is_step_in_range : Step → Bool
is_step_in_range (steps.Load word) = nat_lt word.0 8
is_step_in_range (steps.Store word value) = nat_lt word.0 8
is_step_in_range (steps.Issue kind slot) = nat_lt slot.0 8
is_step_in_range other = true

-- the record of a load or a store that is done
abbrev pub step_record : LineState → Agent → Line → Step → Option Record
step_record s agent line (steps.Load word) = Some (records.Load agent line word (word_of (rn_of s agent.0) word.0))
step_record s agent line (steps.Store word value) = Some (records.Store agent line word value)
step_record s agent line other = None

abbrev pub record_of : LineState → Action → Option Record
record_of s action = step_record s action.agent action.line action.step

-- the slot that a step names
abbrev pub issued_slot : Step → Option Slot
issued_slot (steps.Issue kind slot) = Some slot
issued_slot other = None
