-- Flits in C's numbers (docs/PROTOCOL.md, "Messages"; docs/LIBRARY.md, "Numbers").
use Rattle.std.specs.Prelude.{ℕ, List, [], ◌∷◌, Bool, true, false, Option, Some, None, replicate}
use Rattle.chi_flit.specs.declared.message.Channel.TheVariants as channels
use Rattle.chi_flit.specs.declared.message.DatUp.{DatUp}
use Rattle.chi_flit.specs.declared.message.DatUp.TheVariants.{SnpRespDataIPD, SnpRespDataSCPD, SnpRespDataSD, CopyBackWrData}
use Rattle.chi_flit.specs.declared.message.Msg.{Msg}
use Rattle.chi_flit.specs.declared.message.Msg.TheVariants as messages
use Rattle.chi_flit.specs.declared.message.Request.{Request}
use Rattle.chi_flit.specs.declared.message.RspDown.{RspDown}
use Rattle.chi_flit.specs.declared.message.RspDown.TheVariants.{RetryAck, CompUC, CompI, CompDBIDResp}
use Rattle.chi_flit.specs.declared.message.RspUp.{RspUp}
use Rattle.chi_flit.specs.declared.message.RspUp.TheVariants.{SnpRespI, SnpRespSC, CompAck}
use Rattle.chi_flit.specs.declared.snoop.Snoop.{Snoop}
use Rattle.chi_flit.specs.declared.snoop.Snoop.TheVariants.{SnpShared, SnpNotSharedDirty, SnpUnique, SnpCleanInvalid}
use Rattle.chi_flit.specs.declared.state.State.{State}
use Rattle.chi_flit.specs.declared.state.State.TheVariants.{I, SC, UC, UD, SD}
use Rattle.chi_flit.specs.Credit.{credit_number}
use Rattle.chi_flit.specs.Message.{channel_of, no_words}
use Rattle.chi_slice.specs.Words.{cell_of, Cells, channel_number, Flit}
use Rattle.chi_library.specs.declared.flits.ChiFlit.{ChiFlit}
use Rattle.chi_library.specs.declared.flits.ChiFlits.{ChiFlits}
use Rattle.chi_library.specs.declared.flits.ChiSent.{ChiSent}
use Rattle.chi_flit.specs.Kind.{kind_number}
use Rattle.chi_library.specs.declared.messages.TheConstants as numbers
use Rattle.chi_library.specs.Numbers.{flag_number}

abbrev pub no_flit : ChiFlit
no_flit = record { message = numbers.NO_MESSAGE; kind = 0; slot = 0; allow_retry = 0; credit = 0; reserved = replicate 3 0; words = no_words }

-- a message by its number alone, and one with data
abbrev pub plain_told : ℕ → ChiFlit
plain_told n = record no_flit { message = n }

abbrev pub data_told : ℕ → List ℕ → ChiFlit
data_told n words = record no_flit { message = n; words = words }

abbrev pub request_told : Request → ChiFlit
request_told request =
    record no_flit { message = numbers.REQUEST; kind = kind_number request.kind; slot = request.slot.0; allow_retry = flag_number request.allow_retry }

abbrev pub snoop_message : Snoop → ℕ
snoop_message SnpShared = numbers.SNP_SHARED
snoop_message SnpNotSharedDirty = numbers.SNP_NOT_SHARED_DIRTY
snoop_message SnpUnique = numbers.SNP_UNIQUE
snoop_message SnpCleanInvalid = numbers.SNP_CLEAN_INVALID

abbrev pub response_told : RspDown → ChiFlit
response_told (RetryAck ty) = record no_flit { message = numbers.RETRY_ACK; credit = credit_number ty }
response_told CompUC = plain_told numbers.COMP_UC
response_told CompI = plain_told numbers.COMP_I
response_told CompDBIDResp = plain_told numbers.COMP_DBID_RESP

abbrev pub dat_down_message : Bool → ℕ
dat_down_message false = numbers.COMP_DATA_SC
dat_down_message true = numbers.COMP_DATA_UC

abbrev pub rsp_up_message : RspUp → ℕ
rsp_up_message SnpRespI = numbers.SNP_RESP_I
rsp_up_message SnpRespSC = numbers.SNP_RESP_SC
rsp_up_message CompAck = numbers.COMP_ACK

abbrev pub write_message : State → ℕ
write_message I = numbers.COPY_BACK_WR_DATA_I
write_message SC = numbers.COPY_BACK_WR_DATA_SC
write_message UC = numbers.COPY_BACK_WR_DATA_UC
write_message UD = numbers.COPY_BACK_WR_DATA_UD_PD
write_message SD = numbers.COPY_BACK_WR_DATA_SD_PD

abbrev pub dat_up_told : DatUp → ChiFlit
dat_up_told (SnpRespDataIPD words) = data_told numbers.SNP_RESP_DATA_I_PD words
dat_up_told (SnpRespDataSCPD words) = data_told numbers.SNP_RESP_DATA_SC_PD words
dat_up_told (SnpRespDataSD words) = data_told numbers.SNP_RESP_DATA_SD words
dat_up_told (CopyBackWrData state words) = data_told (write_message state) words

-- a message that may be in flight
abbrev pub flit_told : Option Msg → ChiFlit
flit_told None = no_flit
flit_told (Some (messages.Req request)) = request_told request
flit_told (Some (messages.Snp snoop)) = plain_told (snoop_message snoop)
flit_told (Some (messages.RspDown response)) = response_told response
flit_told (Some (messages.DatDown sent)) = data_told (dat_down_message sent.unique) sent.words
flit_told (Some (messages.RspUp response)) = plain_told (rsp_up_message response)
flit_told (Some (messages.DatUp response)) = dat_up_told response

-- nothing in flight
abbrev pub no_flits_told : ChiFlits
no_flits_told = record { channels = replicate 6 no_flit }

-- what is in flight, channel by channel
abbrev pub flits_told : Cells → ChiFlits
flits_told cells = record {
  channels =
      flit_told (cell_of cells channels.Req) ∷ flit_told (cell_of cells channels.Snp)
      ∷ flit_told (cell_of cells channels.RspDown) ∷ flit_told (cell_of cells channels.DatDown)
      ∷ flit_told (cell_of cells channels.RspUp) ∷ flit_told (cell_of cells channels.DatUp) ∷ [];
}

-- a flit with its agent and its channel, and none
abbrev pub no_sent : ChiSent
no_sent = record { agent = 0; channel = 0; reserved = replicate 6 0; flit = no_flit }

abbrev pub sent_told : Flit → ChiSent
sent_told sent = record { agent = sent.agent.0; channel = channel_number (channel_of sent.message); reserved = replicate 6 0; flit = flit_told (Some sent.message) }

-- of the flits that an action takes, which are one at most
abbrev pub taken_told : List Flit → ChiSent
taken_told [] = no_sent
taken_told (taken ∷ others) = sent_told taken
