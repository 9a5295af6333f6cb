-- What a flit of Issue B is to the rules of a line, by the rows of the code's tables (docs/WATCH.md, "What a line is told").
use Rattle.std.specs.Prelude.{ℕ, ◌==◌, ◌&&◌, Bool, true, false, List, Option, Some, None, if◌then◌else◌, is_none, not}
use Rattle.std.specs.List.{find, slice_index_or}
use Rattle.std.specs.Option.{option_map}
use denote.Enum.Declared.{tag_of}
use Rattle.chi_flit.specs.declared.numbers.Agent.{Agent}
use Rattle.chi_issue_b.specs.contracts.opcodes.RequestOpcode as requests
use Rattle.chi_issue_b.specs.contracts.opcodes.SnoopOpcode as snoops
use Rattle.chi_issue_b.specs.contracts.opcodes.ResponseOpcode as responses
use Rattle.chi_issue_b.specs.contracts.opcodes.DataOpcode as datas
use Rattle.chi_issue_b.specs.contracts.resp.Resp as resps
use Rattle.chi_issue_b.specs.declared.flit.Flit.{Flit as AnyFlit}
use Rattle.chi_issue_b.specs.declared.opcodes.Opcode.{Opcode}
use Rattle.chi_issue_b.specs.declared.opcodes.Opcode.TheVariants.{Req, Snp, Rsp, Dat}
use Rattle.chi_issue_b.specs.declared.opcodes.RequestOpcode.{RequestOpcode}
use Rattle.chi_issue_b.specs.declared.opcodes.RequestOpcode.TheVariants.{ReqLCrdReturn}
use Rattle.chi_issue_b.specs.declared.opcodes.SnoopOpcode.{SnoopOpcode}
use Rattle.chi_issue_b.specs.declared.opcodes.SnoopOpcode.TheVariants.{SnpLCrdReturn}
use Rattle.chi_issue_b.specs.declared.opcodes.ResponseOpcode.{ResponseOpcode}
use Rattle.chi_issue_b.specs.declared.opcodes.DataOpcode.{DataOpcode}
use Rattle.chi_issue_b.specs.declared.resp.Resp.{Resp}
use Rattle.chi_observer.specs.declared.flits.Act.TheVariants.{Request, Resend}
use Rattle.chi_observer.specs.declared.flits.Grant.TheVariants as grants
use Rattle.chi_observer.specs.declared.flits.Flit.TheVariants.{Up, Down}
use Rattle.chi_observer.specs.declared.kinds.Kind.{Kind}
use Rattle.chi_observer.specs.declared.kinds.Snoop.{Snoop}
use Rattle.chi_watch.specs.declared.flits.Meaning.{Meaning}
use Rattle.chi_watch.specs.declared.flits.Meaning.TheVariants.{Sent, Given}
use Rattle.chi_watch.specs.declared.flits.Meaning.TheVariants as silent
use Rattle.chi_issue_b.specs.declared.opcodes.ResponseOpcode.TheVariants.{CompAck}
use Rattle.chi_watch.specs.declared.flits.TheConstants.{REQUESTS, SNOOPS, RESPONSES, DATA_FLITS}
use Rattle.chi_watch.specs.declared.told.Cause.TheVariants as causes
use Rattle.chi_watch.specs.declared.told.Told.{Told}
use Rattle.chi_watch.specs.declared.told.Told.TheVariants as told

-- THE TABLES. Requests and snoops stand at the places of their opcodes
abbrev pub kind_of : RequestOpcode → Option Kind
kind_of opcode = (slice_index_or REQUESTS (tag_of requests.the_type opcode) (ReqLCrdReturn, None, false)).1

-- its CompAck ends what it does to copies; that of a ReadOnce or a WriteUniqueFull tells nothing of them
abbrev pub is_acknowledged : Opcode → Bool
is_acknowledged (Req opcode) = (slice_index_or REQUESTS (tag_of requests.the_type opcode) (ReqLCrdReturn, None, false)).2
is_acknowledged other = true

abbrev pub snoop_of : SnoopOpcode → Option Snoop
snoop_of opcode = (slice_index_or SNOOPS (tag_of snoops.the_type opcode) (SnpLCrdReturn, None)).1

-- a response and data by opcode and RESP; a row that names none is of any
abbrev pub fits_resp : Option Resp → Option Resp → Bool
fits_resp None resp = true
fits_resp (Some wanted) None = false
fits_resp (Some wanted) (Some resp) = tag_of resps.the_type wanted == tag_of resps.the_type resp

abbrev pub is_response_row : ResponseOpcode → Option Resp → ResponseOpcode × Option Resp × Meaning → Bool
is_response_row opcode resp row = tag_of responses.the_type row.0 == tag_of responses.the_type opcode && fits_resp row.1 resp

abbrev pub is_data_row : DataOpcode → Option Resp → DataOpcode × Option Resp × Meaning → Bool
is_data_row opcode resp row = tag_of datas.the_type row.0 == tag_of datas.the_type opcode && fits_resp row.1 resp

-- WHAT A FLIT IS, if the tables have it, in a transaction whose request or snoop has an opcode
abbrev pub asked : Bool → Kind → Meaning
asked allows_retry kind = if allows_retry then Sent (Request kind) else Sent (Resend kind)

abbrev pub request_meaning : RequestOpcode → Bool → Option Meaning
request_meaning opcode allows_retry = option_map (asked allows_retry) (kind_of opcode)

abbrev pub snoop_meaning : SnoopOpcode → Option Meaning
snoop_meaning opcode = option_map (λ snoop. Given (grants.Snp snoop)) (snoop_of opcode)

abbrev pub is_comp_ack : ResponseOpcode → Bool
is_comp_ack CompAck = true
is_comp_ack other = false

abbrev pub response_row : ResponseOpcode → Option Resp → Option Meaning
response_row opcode resp = option_map (λ row. row.2) (find (is_response_row opcode resp) RESPONSES)

abbrev pub response_meaning : ResponseOpcode → Option Resp → Opcode → Option Meaning
response_meaning opcode resp of = if is_comp_ack opcode && not (is_acknowledged of) then Some silent.Nothing else response_row opcode resp

abbrev pub data_meaning : DataOpcode → Option Resp → Option Meaning
data_meaning opcode resp = option_map (λ row. row.2) (find (is_data_row opcode resp) DATA_FLITS)

abbrev pub meaning_by : Opcode → AnyFlit → Opcode → Option Meaning
meaning_by (Req opcode) flit of = request_meaning opcode (is_none flit.credit)
meaning_by (Snp opcode) flit of = snoop_meaning opcode
meaning_by (Rsp opcode) flit of = response_meaning opcode flit.resp of
meaning_by (Dat opcode) flit of = data_meaning opcode flit.resp

abbrev pub meaning_of : AnyFlit → Opcode → Option Meaning
meaning_of flit of = meaning_by flit.opcode flit of

-- WHAT A LINE IS TOLD OF, with the flit's words; what has no row isn't judged, nor what is of no agent
abbrev pub told_by : Meaning → Agent → List ℕ → Told
told_by (Sent act) agent words = told.Flit (Up (record { agent = agent; act = act; shown = words }))
told_by (Given grant) agent words = told.Flit (Down (record { agent = agent; grant = grant; shown = words }))
told_by silent.Nothing agent words = told.Nothing

abbrev pub told_from : Meaning → Option Agent → List ℕ → Told
told_from meaning None words = told.Unjudged causes.Node
told_from meaning (Some agent) words = told_by meaning agent words

abbrev pub told_as : Option Meaning → AnyFlit → Option Agent → List ℕ → Told
told_as None flit agent words = told.Unjudged (causes.Opcode flit.opcode)
told_as (Some meaning) flit agent words = told_from meaning agent words

abbrev pub told_of : AnyFlit → Opcode → Option Agent → List ℕ → Told
told_of flit of agent words = told_as (meaning_of flit of) flit agent words
