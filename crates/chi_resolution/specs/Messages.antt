-- The messages of the protocol that flits are: the forms of the profile (docs/PROTOCOL.md, "Messages").
use Rattle.std.specs.Prelude.{ℕ, Bool, true, false, List, Option, Some, None}
use Rattle.std.specs.Option.{option_map}
use Rattle.chi_flit.specs.declared.message.CompData.{CompData}
use Rattle.chi_flit.specs.declared.message.DatUp.{DatUp}
use Rattle.chi_flit.specs.declared.message.DatUp.TheVariants as ups
use Rattle.chi_flit.specs.declared.message.Msg.{Msg}
use Rattle.chi_flit.specs.declared.message.Msg.TheVariants as messages
use Rattle.chi_flit.specs.declared.message.RspDown.{RspDown}
use Rattle.chi_flit.specs.declared.message.RspDown.TheVariants as downs
use Rattle.chi_flit.specs.declared.message.RspUp.{RspUp}
use Rattle.chi_flit.specs.declared.message.RspUp.TheVariants as answers
use Rattle.chi_flit.specs.declared.state.State.{State}
use Rattle.chi_flit.specs.declared.state.State.TheVariants as states
use Rattle.chi_trace.specs.declared.fields.Resp.{Resp}
use Rattle.chi_trace.specs.declared.fields.Resp.TheVariants.{I, SC, UC, UD, SD, IPD, SCPD, UCPD, UDPD, SDPD}
use Rattle.chi_resolution.specs.declared.data_flits.DataSort.{DataSort}
use Rattle.chi_resolution.specs.declared.data_flits.DataSort.TheVariants as sorts

-- Comp, but for Comp_UC, which a CompAck follows
abbrev pub completion_response : Resp → Option RspDown
completion_response I = Some downs.CompI
completion_response other = None

-- SnpResp
abbrev pub answer_form : Resp → Option RspUp
answer_form I = Some answers.SnpRespI
answer_form SC = Some answers.SnpRespSC
answer_form other = None

abbrev pub read_data_of : Resp → List ℕ → Option CompData
read_data_of UC words = Some (record { words = words; unique = true })
read_data_of SC words = Some (record { words = words; unique = false })
read_data_of other words = None

abbrev pub snoop_data_of : Resp → List ℕ → Option DatUp
snoop_data_of IPD words = Some (ups.SnpRespDataIPD words)
snoop_data_of SCPD words = Some (ups.SnpRespDataSCPD words)
snoop_data_of SD words = Some (ups.SnpRespDataSD words)
snoop_data_of other words = None

-- the state whose form of CopyBackWrData it is
abbrev pub state_of : Resp → Option State
state_of I = Some states.I
state_of SC = Some states.SC
state_of UC = Some states.UC
state_of UDPD = Some states.UD
state_of SDPD = Some states.SD
state_of other = None

-- the message of a flit with data
abbrev pub message_of : DataSort → Resp → List ℕ → Option Msg
message_of (sorts.Read dbid) resp words = option_map messages.DatDown (read_data_of resp words)
message_of sorts.Snooped resp words = option_map messages.DatUp (snoop_data_of resp words)
message_of sorts.Written resp words = option_map (λ state. messages.DatUp (ups.CopyBackWrData state words)) (state_of resp)

-- whether two RESPs are the same
abbrev pub is_same_resp : Resp → Resp → Bool
is_same_resp I I = true
is_same_resp SC SC = true
is_same_resp UC UC = true
is_same_resp UD UD = true
is_same_resp SD SD = true
is_same_resp IPD IPD = true
is_same_resp SCPD SCPD = true
is_same_resp UCPD UCPD = true
is_same_resp UDPD UDPD = true
is_same_resp SDPD SDPD = true
is_same_resp one other = false
