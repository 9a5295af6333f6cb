-- What each line of a trace is to a watch, a row for each opcode (docs/OBSERVER.md, "A trace of many lines").
use Rattle.std.specs.Prelude.{ℕ, ◌/◌, ◌%◌, List, Option, Some, None, replicate}
use Rattle.chi_flit.specs.declared.kind.Kind.{Kind}
use Rattle.chi_flit.specs.declared.kind.Kind.TheVariants as kinds
use Rattle.chi_flit.specs.declared.snoop.Snoop.{Snoop}
use Rattle.chi_flit.specs.declared.snoop.Snoop.TheVariants as snoops
use Rattle.chi_flit.specs.declared.state.State.{State}
use Rattle.chi_flit.specs.declared.state.State.TheVariants as states
use Rattle.chi_trace.specs.declared.any_flits.AnyFlit.{AnyFlit}
use Rattle.chi_trace.specs.declared.any_flits.AnyFlit.TheVariants as any
use Rattle.chi_trace.specs.declared.any_flits.AnySeen.{AnySeen}
use Rattle.chi_trace.specs.declared.any_opcodes.OtherKind.{OtherKind}
use Rattle.chi_trace.specs.declared.any_opcodes.OtherKind.TheVariants as others
use Rattle.chi_trace.specs.declared.any_opcodes.OtherSnoop.{OtherSnoop}
use Rattle.chi_trace.specs.declared.any_opcodes.OtherSnoop.TheVariants as other_snoops
use Rattle.chi_trace.specs.declared.fields.Address.{Address}
use Rattle.chi_trace.specs.declared.fields.Beat.{Beat}
use Rattle.chi_trace.specs.declared.fields.DbId.{DbId}
use Rattle.chi_trace.specs.declared.fields.NodeId.{NodeId}
use Rattle.chi_trace.specs.declared.fields.PcrdType.{PcrdType}
use Rattle.chi_trace.specs.declared.fields.Resp.{Resp}
use Rattle.chi_trace.specs.declared.fields.Resp.TheVariants.{I, SC, UC, UD, SD, IPD, SCPD, UCPD, UDPD, SDPD}
use Rattle.chi_trace.specs.declared.fields.TxnId.{TxnId}
use Rattle.chi_trace.specs.declared.flits.Flit.{Flit}
use Rattle.chi_trace.specs.declared.flits.Flit.TheVariants as flits
use Rattle.chi_trace.specs.declared.flits.RequestFields.{RequestFields}
use Rattle.chi_trace.specs.declared.flits.SnoopFields.{SnoopFields}
use Rattle.chi_trace.specs.declared.flits.Transaction.{Transaction}
use Rattle.chi_observer.specs.declared.kinds.Kind as told_kinds
use Rattle.chi_observer.specs.declared.kinds.Kind.TheVariants as told_kind
use Rattle.chi_observer.specs.declared.kinds.Snoop as told_snoops
use Rattle.chi_observer.specs.declared.kinds.Snoop.TheVariants as told_snoop
use Rattle.chi_observer.specs.declared.flits.Act.{Act}
use Rattle.chi_observer.specs.declared.flits.Word.{Word}
use Rattle.chi_observer.specs.declared.flits.Act.TheVariants as acts
use Rattle.chi_observer.specs.declared.flits.Answer.TheVariants as answers
use Rattle.chi_observer.specs.declared.flits.Grant.TheVariants as grants
use Rattle.chi_observe.specs.declared.events.Event.{Event}
use Rattle.chi_observe.specs.declared.events.Event.TheVariants as events
use Rattle.chi_observe.specs.declared.events.Tells.{Tells}
use Rattle.chi_observe.specs.declared.events.Tells.TheVariants.{Sent, Given, Unjudged, NoForm}
use Rattle.chi_ids.specs.declared.keys.CacheLine.{CacheLine}
use Rattle.chi_observe.specs.declared.steps.IdStep.{IdStep}
use Rattle.chi_observe.specs.declared.steps.IdStep.TheVariants as steps

abbrev pub line_of : Address → CacheLine
line_of address = record { 0 = address.0 / 64 }

abbrev pub line_named : Option Address → Option CacheLine
line_named None = None
line_named (Some address) = Some (line_of address)

-- kinds and snoops of the same name
abbrev pub kind_named : Kind → told_kinds.Kind
kind_named kinds.ReadNotSharedDirty = told_kind.ReadNotSharedDirty
kind_named kinds.ReadShared = told_kind.ReadShared
kind_named kinds.ReadUnique = told_kind.ReadUnique
kind_named kinds.CleanUnique = told_kind.CleanUnique
kind_named kinds.Evict = told_kind.Evict
kind_named kinds.WriteBackFull = told_kind.WriteBackFull
kind_named kinds.WriteCleanFull = told_kind.WriteCleanFull
kind_named kinds.WriteEvictFull = told_kind.WriteEvictFull

abbrev pub snoop_named : Snoop → told_snoops.Snoop
snoop_named snoops.SnpShared = told_snoop.SnpShared
snoop_named snoops.SnpNotSharedDirty = told_snoop.SnpNotSharedDirty
snoop_named snoops.SnpUnique = told_snoop.SnpUnique
snoop_named snoops.SnpCleanInvalid = told_snoop.SnpCleanInvalid

-- kinds and snoops that the profile hasn't
abbrev pub other_kind_named : OtherKind → told_kinds.Kind
other_kind_named others.ReadClean = told_kind.ReadClean
other_kind_named others.ReadOnce = told_kind.ReadOnce
other_kind_named others.MakeUnique = told_kind.MakeUnique
other_kind_named others.CleanShared = told_kind.CleanShared
other_kind_named others.CleanInvalid = told_kind.CleanInvalid
other_kind_named others.MakeInvalid = told_kind.MakeInvalid
other_kind_named others.WriteUniqueFull = told_kind.WriteUniqueFull

abbrev pub other_snoop_named : OtherSnoop → told_snoops.Snoop
other_snoop_named other_snoops.SnpOnce = told_snoop.SnpOnce
other_snoop_named other_snoops.SnpClean = told_snoop.SnpClean
other_snoop_named other_snoops.SnpCleanShared = told_snoop.SnpCleanShared
other_snoop_named other_snoops.SnpMakeInvalid = told_snoop.SnpMakeInvalid

-- a flit without data
abbrev pub no_data : List ℕ
no_data = replicate 8 0

-- a request that spends a credit is sent again
abbrev pub step_by : told_kinds.Kind → Option PcrdType → TxnId → CacheLine → IdStep
step_by kind None txn line = steps.Attempt txn kind line
step_by kind (Some pcrd) txn line = steps.Resent txn kind line pcrd

abbrev pub request_step : told_kinds.Kind → RequestFields → IdStep
request_step kind fields = step_by kind fields.spends fields.txn (line_of fields.address)

abbrev pub request_told : told_kinds.Kind → Option PcrdType → Tells
request_told kind None = Sent (acts.Request kind) no_data
request_told kind (Some pcrd) = Sent (acts.Resend kind) no_data

-- RESP of each opcode; no flit of it has another one
abbrev pub completion_told : Resp → Tells
completion_told I = Given grants.CompI no_data
completion_told SC = Given grants.CompSC no_data
completion_told resp = NoForm resp

abbrev pub answer_told : Resp → Tells
answer_told I = Sent (acts.SnpResp answers.SnpRespI) no_data
answer_told SC = Sent (acts.SnpResp answers.SnpRespSC) no_data
answer_told UC = Sent (acts.SnpResp answers.SnpRespUC) no_data
answer_told resp = NoForm resp

-- data of a cache, and of the home
abbrev pub data_sent : Beat → Act → Tells
data_sent beat act = Sent act beat.words

abbrev pub data_given : Beat → State → Tells
data_given beat state = Given (grants.CompData state) beat.words

abbrev pub answer_data_told : Resp → Beat → Tells
answer_data_told I beat = data_sent beat (acts.SnpResp answers.SnpRespDataI)
answer_data_told SC beat = data_sent beat (acts.SnpResp answers.SnpRespDataSC)
answer_data_told UC beat = data_sent beat (acts.SnpResp answers.SnpRespDataUC)
answer_data_told UD beat = data_sent beat (acts.SnpResp answers.SnpRespDataUD)
answer_data_told SD beat = data_sent beat (acts.SnpResp answers.SnpRespDataSD)
answer_data_told IPD beat = data_sent beat (acts.SnpResp answers.SnpRespDataIPD)
answer_data_told SCPD beat = data_sent beat (acts.SnpResp answers.SnpRespDataSCPD)
answer_data_told UCPD beat = data_sent beat (acts.SnpResp answers.SnpRespDataUCPD)
answer_data_told resp beat = NoForm resp

abbrev pub written_told : Resp → Beat → Tells
written_told I beat = data_sent beat (acts.CopyBackWrData states.I)
written_told SC beat = data_sent beat (acts.CopyBackWrData states.SC)
written_told UC beat = data_sent beat (acts.CopyBackWrData states.UC)
written_told UDPD beat = data_sent beat (acts.CopyBackWrData states.UD)
written_told SDPD beat = data_sent beat (acts.CopyBackWrData states.SD)
written_told resp beat = NoForm resp

abbrev pub whole_written_told : Resp → Beat → Tells
whole_written_told I beat = data_sent beat acts.NonCopyBackWrData
whole_written_told resp beat = NoForm resp

abbrev pub read_told : Resp → Beat → Tells
read_told I beat = data_given beat states.I
read_told SC beat = data_given beat states.SC
read_told UC beat = data_given beat states.UC
read_told UDPD beat = data_given beat states.UD
read_told SDPD beat = data_given beat states.SD
read_told resp beat = NoForm resp

-- the TxnID of CompAck and write data is the DBID
abbrev pub named_buffer : Transaction → DbId
named_buffer transaction = record { 0 = transaction.txn.0 }

-- from a requester to the home, and from the home to a requester
abbrev pub up : AnySeen → NodeId → Option Address → IdStep → Tells → Event
up seen home at step tells = events.Line (record { number = seen.line; sides = record { requester = seen.source; home = home }; step = step; at = line_named at; tells = tells })

abbrev pub down : AnySeen → NodeId → Option Address → IdStep → Tells → Event
down seen requester at step tells = events.Line (record { number = seen.line; sides = record { requester = requester; home = seen.source }; step = step; at = line_named at; tells = tells })

abbrev pub request_event : AnySeen → told_kinds.Kind → RequestFields → Event
request_event s kind fields = up s fields.target None (request_step kind fields) (request_told kind fields.spends)

abbrev pub snoop_event : AnySeen → told_snoops.Snoop → SnoopFields → Event
snoop_event s snoop fields = down s fields.target None (steps.Snoop fields.txn snoop (line_of fields.address)) (Given (grants.Snp snoop) no_data)

abbrev pub read_event : AnySeen → Transaction → Resp → Option DbId → Beat → Event
read_event s t resp dbid beat = down s t.target t.address (steps.ReadData t.txn dbid beat.there) (read_told resp beat)

-- a load or a store: its words aren't judged
-- the word at an address
abbrev pub word_of : Address → ℕ → Word
word_of address value = record { place = record { 0 = address.0 % 64 / 8 }; value = value }

abbrev pub access_event : AnySeen → Address → Act → Event
access_event s address act = events.Access (record { number = s.line; requester = s.source; line = line_of address; tells = Sent act no_data })

-- a flit of the profile
abbrev pub profile_event : AnySeen → Flit → Event
profile_event s (flits.Request kind spends target txn address) = request_event s (kind_named kind) (record { spends = spends; target = target; txn = txn; address = address })
profile_event s (flits.PCrdReturn pcrd target) = events.Returned (record { requester = s.source; home = target }) pcrd
profile_event s (flits.Snoop snoop target txn address) = snoop_event s (snoop_named snoop) (record { target = target; txn = txn; address = address })
profile_event s (flits.RetryAck pcrd t) = down s t.target t.address (steps.RetryAck t.txn pcrd) (Given grants.RetryAck no_data)
profile_event s (flits.CompUC dbid t) = down s t.target t.address (steps.CompleteWith t.txn (Some dbid)) (Given grants.CompUC no_data)
profile_event s (flits.Comp resp t) = down s t.target t.address (steps.Complete t.txn) (completion_told resp)
profile_event s (flits.CompDBIDResp dbid t) = down s t.target t.address (steps.CompleteWith t.txn (Some dbid)) (Given grants.CompDBIDResp no_data)
profile_event s (flits.PCrdGrant pcrd target) = events.Granted (record { requester = target; home = s.source }) pcrd
profile_event s (flits.SnpResp resp t) = up s t.target t.address (steps.Answer t.txn) (answer_told resp)
profile_event s (flits.CompAck t) = up s t.target t.address (steps.Acknowledge (named_buffer t)) (Sent acts.CompAck no_data)
profile_event s (flits.CompData resp dbid t beat) = read_event s t resp (Some dbid) beat
profile_event s (flits.SnpRespData resp t beat) = up s t.target t.address (steps.AnswerData t.txn beat.there) (answer_data_told resp beat)
profile_event s (flits.CopyBackWrData resp t beat) = up s t.target t.address (steps.WriteData (named_buffer t) beat.there) (written_told resp beat)
profile_event s (flits.Load address value) = access_event s address (acts.Load (word_of address value))
profile_event s (flits.Store address value) = access_event s address (acts.Store (word_of address value))

-- and any other
abbrev pub event_by : AnySeen → AnyFlit → Event
event_by s (any.Profile flit) = profile_event s flit
event_by s (any.Request kind fields) = request_event s (other_kind_named kind) fields
event_by s (any.Snoop snoop fields) = snoop_event s (other_snoop_named snoop) fields
event_by s (any.CompUC t) = down s t.target t.address (steps.CompleteWith t.txn None) (Given grants.CompUC no_data)
event_by s (any.CompData resp t beat) = read_event s t resp None beat
event_by s (any.NonCopyBackWrData resp t beat) = up s t.target t.address (steps.WriteData (named_buffer t) beat.there) (whole_written_told resp beat)
event_by s (any.UnknownRequest opcode fields) = up s fields.target None (steps.UnknownRequest fields.txn (line_of fields.address) fields.spends) (Unjudged opcode)
event_by s (any.UnknownSnoop opcode fields) = down s fields.target None (steps.UnknownSnoop fields.txn (line_of fields.address)) (Unjudged opcode)
event_by s (any.UnknownAnswer opcode t) = up s t.target t.address (steps.UnknownAnswer t.txn) (Unjudged opcode)
event_by s (any.UnknownReply opcode t dbid) = down s t.target t.address (steps.UnknownReply t.txn dbid) (Unjudged opcode)

abbrev pub event_of : AnySeen → Event
event_of seen = event_by seen seen.flit
