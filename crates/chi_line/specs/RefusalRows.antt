-- Why an action is refused, by the protocol alone: the refusals of its row from left to right, on the line as
-- `Protocol` has it (docs/PROTOCOL.md, "The actions" and "Refusals").
use Rattle.std.specs.Prelude.{◌≡◌, Bool, true, false, ◌==◌, ◌&&◌, ◌||◌, not, Option, Some, None, is_some, if◌then◌else◌}
use Rattle.std.specs.List.{list_any}
use Rattle.chi_flit.specs.declared.action.Step.TheVariants as steps
use Rattle.chi_flit.specs.declared.refusal.Refusal.{Refusal}
use Rattle.chi_flit.specs.declared.refusal.Refusal.TheVariants as refusals
use Rattle.chi_flit.specs.Kind.{is_copy_back, is_needed}
use Rattle.chi_flit.specs.State.{is_unique, is_valid}
use Rattle.chi_line.specs.Words.{Agent, Slot, State, SC, UC, Step, Flit, Pending, Phase, Sent, Retried, Waiting}
use Rattle.chi_line.specs.Words.{Msg, Req, Snp, RspDown, DatDown, RspUp, DatUp, RetryAck, CompUC, CompI, CompDBIDResp, SnpRespI, SnpRespSC, CompAck, SnpRespDataIPD, SnpRespDataSCPD, SnpRespDataSD, CopyBackWrData}
use Rattle.chi_line.specs.Protocol.{Serving, Standing}
use Rattle.chi_line.specs.Protocol.Serving.{Idle, Snooping, AwaitingCompAck, AwaitingWriteData}

-- what refuses an action beside its line: the journal has no room; the slot that an Issue names is in use
pub record Room : Type 0 where
  pub journal_full : Bool
  pub slot_used : Bool

-- THE MESSAGES THAT AN ACTION TAKES
abbrev pub is_request : Msg → Bool
is_request (Req request) = true
is_request other = false

abbrev pub is_first_attempt : Msg → Bool
is_first_attempt (Req request) = request.allow_retry
is_first_attempt other = false

abbrev pub is_retry_ack : Msg → Bool
is_retry_ack (RspDown (RetryAck ty)) = true
is_retry_ack other = false

abbrev pub is_snoop : Msg → Bool
is_snoop (Snp snoop) = true
is_snoop other = false

abbrev pub is_snoop_answer : Msg → Bool
is_snoop_answer (RspUp SnpRespI) = true
is_snoop_answer (RspUp SnpRespSC) = true
is_snoop_answer (DatUp (SnpRespDataIPD words)) = true
is_snoop_answer (DatUp (SnpRespDataSCPD words)) = true
is_snoop_answer (DatUp (SnpRespDataSD words)) = true
is_snoop_answer other = false

abbrev pub is_comp_data : Msg → Bool
is_comp_data (DatDown response) = true
is_comp_data other = false

abbrev pub is_completion : Msg → Bool
is_completion (RspDown CompUC) = true
is_completion (RspDown CompI) = true
is_completion other = false

abbrev pub is_comp_ack : Msg → Bool
is_comp_ack (RspUp CompAck) = true
is_comp_ack other = false

abbrev pub is_data_request : Msg → Bool
is_data_request (RspDown CompDBIDResp) = true
is_data_request other = false

abbrev pub is_written_data : Msg → Bool
is_written_data (DatUp (CopyBackWrData form words)) = true
is_written_data other = false

-- 7: no such message of n is in flight
abbrev pub is_flit_of : (Msg → Bool) → Agent → Flit → Bool
is_flit_of test n flit = flit.agent.0 == n.0 && test flit.message

abbrev pub is_missing : (Msg → Bool) → Agent → Standing → Bool
is_missing test n s = not (list_any (is_flit_of test n) s.flits)

-- THE OTHER CONDITIONS
abbrev pub is_droppable : State → Bool
is_droppable SC = true
is_droppable UC = true
is_droppable other = false

abbrev pub is_retried_phase : Phase → Bool
is_retried_phase Sent = false
is_retried_phase Retried = true

abbrev pub is_retried : Option Pending → Bool
is_retried None = false
is_retried (Some p) = is_retried_phase p.phase

-- a copy-back whose copy isn't in the state that it needs
abbrev pub is_outdated : Option Pending → State → Bool
is_outdated None state = false
is_outdated (Some p) state = is_copy_back p.kind && not (is_needed p.kind state)

abbrev pub is_line_idle : Serving → Bool
is_line_idle Idle = true
is_line_idle other = false

-- refused where the condition holds, and if not, as the rest of the row says
abbrev pub refused_if : Bool → Refusal → Option Refusal → Option Refusal
refused_if condition refusal rest = if condition then Some refusal else rest

abbrev pub refusal_row : Room → Standing → Agent → Step → Option Refusal
refusal_row room s n (steps.Load word) =
    refused_if (not (is_valid (s.copies n).state)) refusals.WrongState
    (refused_if room.journal_full refusals.JournalFull None)
refusal_row room s n (steps.Store word value) =
    refused_if (is_some (s.pending n)) refusals.Pending
    (refused_if (not (is_unique (s.copies n).state)) refusals.WrongState
    (refused_if room.journal_full refusals.JournalFull None))
refusal_row room s n steps.Drop =
    refused_if (is_some (s.pending n)) refusals.Pending
    (refused_if (not (is_droppable (s.copies n).state)) refusals.WrongState None)
refusal_row room s n (steps.Issue kind slot) =
    refused_if (is_some (s.pending n) || room.slot_used) refusals.Pending
    (refused_if (not (is_needed kind (s.copies n).state)) refusals.WrongState None)
refusal_row room s n steps.Admit = refused_if (is_missing is_request n s) refusals.NoFlit None
refusal_row room s n steps.Retry =
    refused_if (is_missing is_request n s) refusals.NoFlit
    (refused_if (is_missing is_first_attempt n s) refusals.MustAccept None)
refusal_row room s n steps.RecvRetry = refused_if (is_missing is_retry_ack n s) refusals.NoFlit None
refusal_row room s n steps.Resend =
    refused_if (not (is_retried (s.pending n))) refusals.NothingPending
    (refused_if (is_outdated (s.pending n) (s.copies n).state) refusals.WrongState None)
refusal_row room s n steps.Cancel =
    refused_if (not (is_retried (s.pending n))) refusals.NothingPending
    (refused_if (not (is_outdated (s.pending n) (s.copies n).state)) refusals.WrongState None)
refusal_row room s n steps.Start =
    refused_if (not (is_some (s.waiting n))) refusals.NotWaiting
    (refused_if (not (is_line_idle s.serving)) refusals.LineBusy None)
refusal_row room s n steps.RecvSnp = refused_if (is_missing is_snoop n s) refusals.NoFlit None
refusal_row room s n steps.RecvSnpResp = refused_if (is_missing is_snoop_answer n s) refusals.NoFlit None
refusal_row room s n steps.RecvData = refused_if (is_missing is_comp_data n s) refusals.NoFlit None
refusal_row room s n steps.RecvComp = refused_if (is_missing is_completion n s) refusals.NoFlit None
refusal_row room s n steps.RecvAck = refused_if (is_missing is_comp_ack n s) refusals.NoFlit None
refusal_row room s n steps.RecvDbid = refused_if (is_missing is_data_request n s) refusals.NoFlit None
refusal_row room s n steps.RecvWrData = refused_if (is_missing is_written_data n s) refusals.NoFlit None

-- the refusals that no action has by itself: 8, 11 and 12
abbrev pub is_of_actions : Refusal → Bool
is_of_actions refusals.NoMemory = false
is_of_actions refusals.NotOpen = false
is_of_actions refusals.NoCredit = false
is_of_actions other = true

-- the room that an action needs beside its line
abbrev pub HasRoom : Room → Step → Type 0
HasRoom room (steps.Load word) = room.journal_full ≡ false
HasRoom room (steps.Store word value) = room.journal_full ≡ false
HasRoom room (steps.Issue kind slot) = room.slot_used ≡ false
HasRoom room other = Unit {0}

-- A SLOT IN USE: by the request that is pending, or by one that waits or is served at the home
abbrev pub has_pending_slot : Option Pending → Slot → Bool
has_pending_slot None slot = false
has_pending_slot (Some p) slot = p.slot.0 == slot.0

abbrev pub has_waiting_slot : Option Waiting → Slot → Bool
has_waiting_slot None slot = false
has_waiting_slot (Some w) slot = w.slot.0 == slot.0

abbrev pub is_served_slot : Serving → Agent → Slot → Bool
is_served_slot Idle n slot = false
is_served_slot (Snooping agent kind own awaited) n slot = agent.0 == n.0 && own.0 == slot.0
is_served_slot (AwaitingCompAck agent own) n slot = agent.0 == n.0 && own.0 == slot.0
is_served_slot (AwaitingWriteData agent kind own) n slot = agent.0 == n.0 && own.0 == slot.0

abbrev pub uses_slot : Standing → Agent → Slot → Bool
uses_slot s n slot =
    has_pending_slot (s.pending n) slot || (has_waiting_slot (s.waiting n) slot || is_served_slot s.serving n slot)
