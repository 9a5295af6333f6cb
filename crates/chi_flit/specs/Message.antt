-- Messages: the channel and the text of each, and the forms of write data
-- (Arm IHI 0050 B, chapters 2 and 4; docs/PROTOCOL.md, "Messages" and "Write data").
use Rattle.std.specs.Prelude.{ℕ, List, ◌++◌, Bool, true, false, codes, replicate}
use Rattle.std.specs.Fmt.{decimal}
use Rattle.chi_flit.specs.declared.state.State.{State}
use Rattle.chi_flit.specs.declared.state.State.TheVariants.{I, SC, UC, UD, SD}
use Rattle.chi_flit.specs.declared.message.Channel.{Channel}
use Rattle.chi_flit.specs.declared.message.Channel.TheVariants as channels
use Rattle.chi_flit.specs.declared.message.Request.{Request}
use Rattle.chi_flit.specs.declared.message.RspDown.{RspDown}
use Rattle.chi_flit.specs.declared.message.RspDown.TheVariants.{RetryAck, CompUC, CompI, CompDBIDResp}
use Rattle.chi_flit.specs.declared.message.CompData.{CompData}
use Rattle.chi_flit.specs.declared.message.RspUp.{RspUp}
use Rattle.chi_flit.specs.declared.message.RspUp.TheVariants.{SnpRespI, SnpRespSC, CompAck}
use Rattle.chi_flit.specs.declared.message.DatUp.{DatUp}
use Rattle.chi_flit.specs.declared.message.DatUp.TheVariants.{SnpRespDataIPD, SnpRespDataSCPD, SnpRespDataSD, CopyBackWrData}
use Rattle.chi_flit.specs.declared.message.Msg.{Msg}
use Rattle.chi_flit.specs.declared.message.Msg.TheVariants as messages
use Rattle.chi_flit.specs.Kind.{kind_text}
use Rattle.chi_flit.specs.Credit.{credit_text}
use Rattle.chi_flit.specs.Snoop.{snoop_text}

abbrev pub channel_of : Msg → Channel
channel_of (messages.Req request) = channels.Req
channel_of (messages.Snp snoop) = channels.Snp
channel_of (messages.RspDown response) = channels.RspDown
channel_of (messages.DatDown response) = channels.DatDown
channel_of (messages.RspUp response) = channels.RspUp
channel_of (messages.DatUp response) = channels.DatUp

-- the eight words of a line that has no value
abbrev pub no_words : List ℕ
no_words = replicate 8 0

-- the write data of a copy: in the form of its state, with its words, or with 0 in each where there is no
-- copy
abbrev pub write_data_of : State → List ℕ → DatUp
write_data_of I words = CopyBackWrData I no_words
write_data_of form words = CopyBackWrData form words

abbrev pub channel_text : Channel → List ℕ
channel_text channels.Req = codes "Req"
channel_text channels.Snp = codes "Snp"
channel_text channels.RspDown = codes "RspDown"
channel_text channels.DatDown = codes "DatDown"
channel_text channels.RspUp = codes "RspUp"
channel_text channels.DatUp = codes "DatUp"

-- the last word of a request's text
abbrev pub attempt_text : Bool → List ℕ
attempt_text true = codes "/allow"
attempt_text false = codes "/credit"

abbrev pub request_text : Request → List ℕ
request_text request = kind_text request.kind ++ (codes "/" ++ (decimal request.slot.0 ++ attempt_text request.allow_retry))

abbrev pub rsp_down_text : RspDown → List ℕ
rsp_down_text (RetryAck ty) = codes "RetryAck/" ++ credit_text ty
rsp_down_text CompUC = codes "Comp_UC"
rsp_down_text CompI = codes "Comp_I"
rsp_down_text CompDBIDResp = codes "CompDBIDResp"

abbrev pub comp_data_text : Bool → List ℕ
comp_data_text true = codes "CompData_UC"
comp_data_text false = codes "CompData_SC"

abbrev pub data_down_text : CompData → List ℕ
data_down_text response = comp_data_text response.unique

abbrev pub rsp_up_text : RspUp → List ℕ
rsp_up_text SnpRespI = codes "SnpResp_I"
rsp_up_text SnpRespSC = codes "SnpResp_SC"
rsp_up_text CompAck = codes "CompAck"

abbrev pub data_up_text : DatUp → List ℕ
data_up_text (SnpRespDataIPD words) = codes "SnpRespData_I_PD"
data_up_text (SnpRespDataSCPD words) = codes "SnpRespData_SC_PD"
data_up_text (SnpRespDataSD words) = codes "SnpRespData_SD"
data_up_text (CopyBackWrData I words) = codes "CopyBackWrData_I"
data_up_text (CopyBackWrData SC words) = codes "CopyBackWrData_SC"
data_up_text (CopyBackWrData UC words) = codes "CopyBackWrData_UC"
data_up_text (CopyBackWrData UD words) = codes "CopyBackWrData_UD_PD"
data_up_text (CopyBackWrData SD words) = codes "CopyBackWrData_SD_PD"

abbrev pub message_text : Msg → List ℕ
message_text (messages.Req request) = request_text request
message_text (messages.Snp snoop) = snoop_text snoop
message_text (messages.RspDown response) = rsp_down_text response
message_text (messages.DatDown response) = data_down_text response
message_text (messages.RspUp response) = rsp_up_text response
message_text (messages.DatUp response) = data_up_text response
